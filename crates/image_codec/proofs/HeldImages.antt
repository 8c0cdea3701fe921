-- Who holds what: the descriptors of a process's image are those of the kernel part, and those that hold a description
-- are of one host, with its owner.
use Rattle.std.proofs.Common.{◌≡◌, ℕ, ◌==◌, ◌&&◌, ◌||◌, Bool, true, false, cond, List, filter, map as each, refl, sym, ap, subst, ◌∙◌, ⊎_elim, arith}
use Rattle.std.specs.Prelude.{Option, Some, None}
use Rattle.std.specs.List.{list_any, list_all}
use Rattle.std.specs.FinMap as map
use Rattle.views.specs.Maps.{retain, option_filter}
use Rattle.views.proofs.MapLaws.{true_false, same_key}
use Rattle.views.proofs.MapValues.{entries-retain, get-retained}
use Rattle.sys_abi.specs.declared.identity.VPid.{VPid}
use Rattle.sys_abi.specs.declared.identity.Slot.{Slot}
use Rattle.sys_abi.specs.declared.identity.DescId.{DescId}
use Rattle.sys_abi.specs.Lives.{lives}
use Rattle.sys_abi.specs.declared.life.Life.{Life}
use Rattle.sys_abi.specs.declared.life.Life.TheVariants.{Live, Zombie}
use Rattle.sys_abi.proofs.OrderLaws.{vpid_total, vpid_exact, slot_total, slot_exact, desc_total, desc_exact}
use Rattle.plain_machine.specs.declared.kernel.PlainKernel.{PlainKernel}
use Rattle.plain_machine.specs.Kernels.{IsKernel}
use Rattle.plain_tables.specs.declared.process.Process.{Process}
use Rattle.sys_abi.specs.declared.maker.Maker.{Maker}
use Rattle.sys_abi.specs.declared.descriptor.Descriptor.{Descriptor}
use Rattle.plain_tables.specs.declared.description.Description.{Description}
use Rattle.plain_tables.specs.Tables.{Processes, Descriptors, is_held, refers_to, is_slot_of, is_live_process, lives_in, same_host, pid}
use Rattle.plain_tables.specs.Valid.Processes.{HasParent, IsParent}
use Rattle.plain_tables.specs.Valid.Descriptions.{IsOwner}
use Rattle.plain_tables.specs.Valid.Sockets.{has_host}
use Rattle.plain_tables.specs.Objects.{host_of_object}
use Rattle.shared_items.specs.declared.shared.ChannelImage.{ChannelImage}
use Rattle.shared_items.specs.declared.shared.ProcessEntry.{ProcessEntry}
use Rattle.shared_items.specs.SharedTests as field
use Rattle.shared_items.specs.WholeShared as whole
use Rattle.image_codec.specs.KernelImages.{process_image, maker_or, channel_image, description_image, descriptor_image, is_of}
use Rattle.image_codec.proofs.HeldHosts.{maker_has, object_of_host}
use Rattle.image_codec.proofs.MadeMaps.{which_value}
use Rattle.image_codec.proofs.Listings.{all_images, some_image, which_image}
use Rattle.image_codec.proofs.TestFacts.{and_true, or_later, implied, same_number, equal_numbers}

-- numbers of descriptions and processes
pub pair_is : (d e : DescId) → field.is_pair d.pid.0 d.num e ≡ true → e ≡ d
pair_is d e is =
    let (maker, number) = and_true (e.pid.0 == d.pid.0) (e.num == d.num) is in
    let first : e.pid.0 ≡ d.pid.0 = equal_numbers e.pid.0 d.pid.0 maker in
    let second : e.num ≡ d.num = equal_numbers e.num d.num number in
    λ i. record { pid = record { 0 = first i }; num = second i }

pub same_pair : (d e : DescId) → e ≡ d → field.is_pair d.pid.0 d.num e ≡ true
same_pair d e is = ap (field.is_pair d.pid.0 d.num) is ∙ (λ i. same_number d.pid.0 i && same_number d.num i)

pub number_of_pid : (p q : VPid) → (p.0 == q.0) ≡ true → p ≡ q
number_of_pid p q is = let same : p.0 ≡ q.0 = equal_numbers p.0 q.0 is in λ i. record { 0 = same i }

-- a process that lives is there
pub live_one : (processes : Processes) (p : VPid) → lives_in processes p ≡ true → (process : Process) × (map.get processes p ≡ Some process) × (lives process.life ≡ true)
live_one processes p alive = by_found (map.get processes p) refl alive
  where
    by_found : (found : Option Process) → map.get processes p ≡ found → is_live_process found ≡ true → (process : Process) × (map.get processes p ≡ Some process) × (lives process.life ≡ true)
    by_found None known alive = true_false (sym alive)
    by_found (Some process) known alive = (process, known, alive)

passes : (b : Bool) (x y : Descriptor) → cond b (Some x) None ≡ Some y → (b ≡ true) × (x ≡ y)
passes true x y is = (refl, cc)
passes false x y is = cc

-- the descriptors of one process
module _ (descriptors : Descriptors) (p : VPid) where
  pub own : Descriptors
  own = retain (λ at x. is_slot_of p at) descriptors

  pub own_entries : map.entries own ≡ filter (is_of p) (map.entries descriptors)
  unfolding own
  own_entries = entries-retain (λ at x. is_slot_of p at) descriptors

  pub own_found : (at : Slot) (x : Descriptor) → map.get own at ≡ Some x → (map.get descriptors at ≡ Some x) × (at.pid ≡ p)
  unfolding own
  own_found at x found = by_found (map.get descriptors at) refl (sym (get-retained slot_total slot_exact (λ at x. is_slot_of p at) descriptors at) ∙ found)
    where
      by_found : (found : Option Descriptor) → map.get descriptors at ≡ found → option_filter (λ y. is_slot_of p at) found ≡ Some x → (map.get descriptors at ≡ Some x) × (at.pid ≡ p)
      by_found None known is = cc
      by_found (Some y) known is = let (mine, same) = passes (is_slot_of p at) y x is in (known ∙ ap (λ z. Some z) same, number_of_pid at.pid p mine)

  pub own_there : (at : Slot) (x : Descriptor) → map.get descriptors at ≡ Some x → at.pid ≡ p → map.get own at ≡ Some x
  unfolding own
  own_there at x found mine =
      get-retained slot_total slot_exact (λ at x. is_slot_of p at) descriptors at ∙ ap (option_filter (λ y. is_slot_of p at)) found
      ∙ ap (λ b. cond b (Some x) None) (ap (λ (q : VPid). q.0 == p.0) mine ∙ same_number p.0)

module _ (k : PlainKernel) where
  -- a descriptor of the process refers to the description
  pub record Holds (p : VPid) (d : DescId) : Type 0 where
    pub at : Slot
    pub descriptor : Descriptor
    pub found : map.get k.descriptors at ≡ Some descriptor
    pub mine : at.pid ≡ p
    pub refers : descriptor.desc ≡ d

  pub holds_it : (p : VPid) (process : Process) (d : DescId) → whole.holds d (process_image k (p, process)) ≡ true → Holds p d
  holds_it p process d some =
      let mine = subst (λ (es : List (Slot × Descriptor)). list_any (whole.names_description d) (each descriptor_image es) ≡ true) (sym (own_entries k.descriptors p)) some in
      let (at, x, found, names) = which_image slot_total slot_exact descriptor_image (whole.names_description d) (own k.descriptors p) mine in
      let (there, of_p) = own_found k.descriptors p at x found in
      record { at = at; descriptor = x; found = there; mine = of_p; refers = pair_is d x.desc names }

  pub it_holds : (p : VPid) (process : Process) (d : DescId) → Holds p d → whole.holds d (process_image k (p, process)) ≡ true
  it_holds p process d h =
      subst (λ (es : List (Slot × Descriptor)). list_any (whole.names_description d) (each descriptor_image es) ≡ true) (own_entries k.descriptors p)
      (some_image slot_total slot_exact descriptor_image (whole.names_description d) (own k.descriptors p) h.at h.descriptor (own_there k.descriptors p h.at h.descriptor h.found h.mine) (same_pair d h.descriptor.desc h.refers))

  unfoldable pub process_images : List ProcessEntry
  process_images = each (process_image k) (map.entries k.processes)

module _ (k : PlainKernel) (is : IsKernel k) where
  pub holder_of : (d : DescId) (x : Description) → map.get k.descriptions d ≡ Some x → (at : Slot) × (y : Descriptor) × (map.get k.descriptors at ≡ Some y) × (y.desc ≡ d)
  unfolding is_held
  holder_of d x there =
      let (at, y, found, refers) = which_value slot_total slot_exact (refers_to d) k.descriptors (is.descriptions.held d x there) in
      (at, y, found, sym (same_key desc_total desc_exact d y.desc refers))

  -- some process holds the description
  is_held_there : (d : DescId) (x : Description) → map.get k.descriptions d ≡ Some x → whole.is_held_by_some (process_images k) d ≡ true
  unfolding process_images
  is_held_there d x there =
      let (at, y, found, refers) = holder_of d x there in
      let (process, known, alive) = live_one k.processes at.pid (is.descriptors.alive at y found) in
      some_image vpid_total vpid_exact (process_image k) (whole.holds d) k.processes at.pid process known
      (it_holds k at.pid process d (record { at = at; descriptor = y; found = found; mine = refl; refers = refers }))

  host_same : (m n : Option Maker) → same_host m n ≡ true → ((maker_or n).host == (maker_or m).host) ≡ true
  host_same None n is = true_false (sym is)
  host_same (Some a) None is = true_false (sym is)
  host_same (Some a) (Some b) is = let same : a.host ≡ b.host = equal_numbers a.host b.host is in ap (λ h. b.host == h) same ∙ same_number b.host

  -- those that hold it are of one host
  shares : (p : VPid) (process : Process) (d : DescId) → Holds k p d → list_all (whole.may_share (process_image k (p, process)) d) (process_images k) ≡ true
  unfolding process_images
  shares p process d h =
      all_images vpid_total vpid_exact (process_image k) (whole.may_share (process_image k (p, process)) d) k.processes (λ q other there.
      implied (whole.holds d (process_image k (q, other))) _ (λ holds.
      let g = holds_it k q other d holds in
      host_same (map.get k.makers p) (map.get k.makers q)
      (subst (λ a. same_host (map.get k.makers a) (map.get k.makers q) ≡ true) h.mine
      (subst (λ b. same_host (map.get k.makers h.at.pid) (map.get k.makers b) ≡ true) g.mine
      (is.holders.host h.at g.at h.descriptor g.descriptor h.found g.found (h.refers ∙ sym g.refers))))))

  -- and so is the owner
  owns : (p : VPid) (process : Process) (owner : ℕ) → IsOwner k.processes k.makers p owner → whole.is_owner (process_images k) (process_image k (p, process)).host owner ≡ true
  unfolding process_images
  owns p process owner owned = ⊎_elim
      (λ (nobody : owner ≡ 0). ap (λ n. (n == 0) || list_any (whole.is_owner_of n (process_image k (p, process)).host) (process_images k)) nobody)
      (λ (somebody : (lives_in k.processes (pid owner) ≡ true) × (same_host (map.get k.makers p) (map.get k.makers (pid owner)) ≡ true)).
      let (other, known, alive) = live_one k.processes (pid owner) somebody.0 in
      or_later (owner == 0) _
      (some_image vpid_total vpid_exact (process_image k) (whole.is_owner_of owner (process_image k (p, process)).host) k.processes (pid owner) other known
      (λ i. (same_number owner i && alive i) && host_same (map.get k.makers p) (map.get k.makers (pid owner)) somebody.1 i)))
      owned

  -- and what it stands for
  held_host : (p : VPid) (d : DescId) (x : Description) → Holds k p d → map.get k.descriptions d ≡ Some x → (host : ℕ) → host_of_object k.channels x.object ≡ Some host → host ≡ (maker_or (map.get k.makers p)).host
  held_host p d x h there host at =
      maker_has (map.get k.makers p) host
      (subst (λ q. has_host (map.get k.makers q) host ≡ true) h.mine (is.hosts.held h.at h.descriptor x host h.found (ap (map.get k.descriptions) h.refers ∙ there) at))

  abbrev channel_images : List ChannelImage
  channel_images = each (channel_image k.directions) (map.entries k.channels)

  rightly_held : (d : DescId) (x : Description) → map.get k.descriptions d ≡ Some x → whole.is_rightly_held channel_images (process_images k) (description_image k.listeners (d, x)) ≡ true
  unfolding process_images
  rightly_held d x there =
      let held = is_held_there d x there in
      let each_holder : list_all (whole.is_rightly_held_by channel_images (process_images k) (description_image k.listeners (d, x))) (process_images k) ≡ true =
      all_images vpid_total vpid_exact (process_image k) (whole.is_rightly_held_by channel_images (process_images k) (description_image k.listeners (d, x))) k.processes (λ p process known.
      implied (whole.holds d (process_image k (p, process))) _ (λ holds.
      let h = holds_it k p process d holds in
      let owned = is.holders.owner h.at h.descriptor x h.found (ap (map.get k.descriptions) h.refers ∙ there) in
      let all = shares p process d h in
      let own_host = owns p process x.owner (subst (λ q. IsOwner k.processes k.makers q x.owner) h.mine owned) in
      let near = object_of_host k is x.object (maker_or (map.get k.makers p)).host (λ found at. held_host p d x h there found at) in
      λ i. all i && own_host i && near i)) in
      λ i. held i && each_holder i

  -- a parent is of its child's host
  near_one : (p : VPid) (process : Process) (q : VPid) (other : Process) → map.get k.processes p ≡ Some process → map.get k.processes q ≡ Some other → whole.is_of_parents_host (process_image k (p, process)) (process_image k (q, other)) ≡ true
  near_one p process q other there known =
      implied (process.parent == q.0) _ (λ same. by_life process.life (equal_numbers process.parent q.0 same) (is.parents.each p process there))
    where
      mine : process.parent ≡ q.0 → IsParent k.processes k.makers p process.parent → ((maker_or (map.get k.makers p)).host == (maker_or (map.get k.makers q)).host) ≡ true
      mine same parent =
          let to_q : pid process.parent ≡ q = λ i. record { 0 = same i } in
          let host = subst (λ r. same_host (map.get k.makers p) (map.get k.makers r) ≡ true) to_q parent.host in
          turned (map.get k.makers p) (map.get k.makers q) host
        where
          turned : (m n : Option Maker) → same_host m n ≡ true → ((maker_or m).host == (maker_or n).host) ≡ true
          turned None n is = true_false (sym is)
          turned (Some a) None is = true_false (sym is)
          turned (Some a) (Some b) is = is

      by_life : (life : Life) → process.parent ≡ q.0 → HasParent k.processes k.makers p process.parent life → ((maker_or (map.get k.makers p)).host == (maker_or (map.get k.makers q)).host) ≡ true
      by_life Live same has = ⊎_elim
          (λ nobody. let (least, most) = (is.processes.each q other known).number in absurd (omega (arith, nobody, same, least)))
          (λ parent. mine same parent)
          has
      by_life (Zombie status) same has = mine same has.0

  near : (p : VPid) (process : Process) → map.get k.processes p ≡ Some process → whole.is_near_parent (process_images k) (process_image k (p, process)) ≡ true
  unfolding process_images
  near p process there = all_images vpid_total vpid_exact (process_image k) (whole.is_of_parents_host (process_image k (p, process))) k.processes (λ q other known. near_one p process q other there known)

  pub all_rightly_held : list_all (whole.is_rightly_held channel_images (process_images k)) (each (description_image k.listeners) (map.entries k.descriptions)) ≡ true
  all_rightly_held = all_images desc_total desc_exact (description_image k.listeners) (whole.is_rightly_held channel_images (process_images k)) k.descriptions rightly_held

  pub all_near_parents : list_all (whole.is_near_parent (process_images k)) (process_images k) ≡ true
  unfolding process_images
  all_near_parents = all_images vpid_total vpid_exact (process_image k) (whole.is_near_parent (process_images k)) k.processes near
