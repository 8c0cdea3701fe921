-- What the processes of an image that can be spelled hold is in order: a topic after the other, for any number of processes.
--     descriptors_are, descriptions_are, holders_are, opened      a topic each
use Rattle.std.proofs.Common.{◌≡◌, ℕ, ◌<◌, ◌==◌, ◌&&◌, ◌%◌, Bool, true, false, cond, List, [], ◌∷◌, ◌++◌, length, filter, map as each, inl, inr, refl, sym, ap, subst, ◌∙◌, ⊎_elim, arith, append_assoc, length-append}
use Rattle.std.specs.Prelude.{not, bit_and, nat_le, nat_lt, Option, Some, is_some}
use Rattle.std.specs.List.{AllByRecursion, list_any, list_all, flat_map}
use Rattle.std.specs.Ordering.{eq_by_cmp}
use Rattle.std.specs.FinMap as map
use Rattle.std.proofs.lemmas.Bool.Decides.{nat_tests}
use Rattle.std.proofs.lemmas.List.{length-map}
use Rattle.std.proofs.lemmas.Nat.{and_mask}
use Rattle.views.specs.NumberMap.{is_above}
use Rattle.views.proofs.MapLaws.{true_false, key_tied}
use Rattle.views.proofs.MapValues.{EachEntry, some_among-values}
use Rattle.sys_abi.specs.declared.identity.VPid.{VPid}
use Rattle.sys_abi.specs.declared.identity.Slot.{Slot}
use Rattle.sys_abi.specs.declared.identity.DescId.{DescId}
use Rattle.sys_abi.specs.Orders.{vpid_cmp, desc_cmp}
use Rattle.sys_abi.specs.Lives.{lives}
use Rattle.sys_abi.specs.declared.life.Life.{Life}
use Rattle.sys_abi.specs.declared.life.Life.TheVariants.{Live, Zombie}
use Rattle.sys_abi.proofs.OrderLaws.{vpid_total, vpid_exact, slot_total, slot_exact, desc_total, desc_exact}
use Rattle.plain_machine.specs.declared.kernel.PlainKernel.{PlainKernel}
use Rattle.plain_process.specs.Valid.{Each}
use Rattle.plain_tables.specs.declared.process.Process.{Process}
use Rattle.sys_abi.specs.declared.maker.Maker.{Maker}
use Rattle.sys_abi.specs.declared.descriptor.Descriptor.{Descriptor}
use Rattle.plain_tables.specs.declared.description.Description.{Description}
use Rattle.plain_tables.specs.Tables.{lives_in, same_host, pid, is_held, refers_to}
use Rattle.plain_tables.specs.Valid.Descriptions.{AreDescriptors, AreDescriptions, AreFlags, AreHolders, IsMade, IsOwner}
use Rattle.plain_tables.proofs.Entries.{found_at}
use Rattle.shared_items.specs.declared.shared.DescriptionImage.{DescriptionImage}
use Rattle.shared_items.specs.declared.shared.DescriptorEntry.{DescriptorEntry}
use Rattle.shared_items.specs.declared.shared.ProcessEntry.{ProcessEntry}
use Rattle.shared_items.specs.declared.shared.Shared.{Shared}
use Rattle.shared_items.specs.SharedTests as field
use Rattle.shared_items.specs.WholeShared as whole
use Rattle.shared_items.specs.SharedFormat.{VERSION}
use Rattle.shared_items.specs.SharedFits.{IsShared, DescriptionFits, DescriptorFits, state_of}
use Rattle.image_format.specs.Texts.{EachFrom}
use Rattle.image_codec.specs.KernelParts.{kernel_of, process_entry, descriptor_entries, descriptor_entry}
use Rattle.image_codec.specs.KernelImages.{process_image, maker_or, object_image, description_image, descriptor_image, is_of}
use Rattle.image_codec.proofs.MadeMaps.{each_made}
use Rattle.image_codec.proofs.Listings.{IsSplit, each_from, from_all, which_image}
use Rattle.image_codec.proofs.HeldImages.{holds_it, it_holds, own, own_entries, own_there, pair_is, live_one}
use Rattle.image_codec.proofs.ListedProcesses.{IsListed, listed, processes_back, descriptions_back, ends, live_there, same_hosts}
use Rattle.image_codec.proofs.TestFacts.{and_true, or_either, follows, refused, same_number, equal_numbers, below}

module _ (s : Shared) (is : IsShared s) where
  abbrev k : PlainKernel
  k = kernel_of s

  abbrev images : List ProcessEntry
  images = each (process_image k) (map.entries k.processes)

  -- descriptors: each is of a process that is listed
  abbrev IsOfProcess : Slot → Descriptor → Type 0
  IsOfProcess at descriptor = is_some (map.find vpid_cmp at.pid (each process_entry s.processes)) ≡ true

  own_process : (e : ProcessEntry) → is_some (map.find vpid_cmp e.pid (each process_entry s.processes)) ≡ true → (ds : List DescriptorEntry) → EachEntry IsOfProcess (each (descriptor_entry e.pid) ds)
  own_process e there [] = tt
  own_process e there (d ∷ ds) = (there, own_process e there ds)

  listed_slots : (ps : List ProcessEntry) → AllByRecursion (λ (e : ProcessEntry). is_some (map.find vpid_cmp e.pid (each process_entry s.processes)) ≡ true) ps → EachEntry IsOfProcess (flat_map descriptor_entries ps)
  listed_slots [] are = tt
  listed_slots (e ∷ ps) are = joined (each (descriptor_entry e.pid) e.descriptors) (flat_map descriptor_entries ps) (own_process e are.0 e.descriptors) (listed_slots ps are.1)
    where
      joined : (es fs : List (Slot × Descriptor)) → EachEntry IsOfProcess es → EachEntry IsOfProcess fs → EachEntry IsOfProcess (es ++ fs)
      joined [] fs first rest = rest
      joined (d ∷ es) fs first rest = (first.0, joined es fs first.1 rest)

  among : (ps qs : List ProcessEntry) → AllByRecursion (λ (e : ProcessEntry). is_some (map.find vpid_cmp e.pid (each process_entry (qs ++ ps))) ≡ true) ps
  among [] qs = tt
  among (e ∷ ps) qs = (
    here qs,
    subst (λ all. AllByRecursion (λ (f : ProcessEntry). is_some (map.find vpid_cmp f.pid (each process_entry all)) ≡ true) ps) (append_assoc qs (e ∷ []) ps) (among ps (qs ++ e ∷ [])),
  )
    where
      later : (b : Bool) (v : Process) (found : Option Process) → is_some found ≡ true → is_some (cond b (Some v) found) ≡ true
      later true v found is = refl
      later false v found is = is

      here : (qs : List ProcessEntry) → is_some (map.find vpid_cmp e.pid (each process_entry (qs ++ e ∷ ps))) ≡ true
      here [] = ap (λ b. is_some (cond b (Some (process_entry e).1) (map.find vpid_cmp e.pid (each process_entry ps)))) (key_tied vpid_total vpid_exact e.pid)
      here (q ∷ qs) = later (eq_by_cmp vpid_cmp e.pid q.pid) (process_entry q).1 (map.find vpid_cmp e.pid (each process_entry (qs ++ e ∷ ps))) (here qs)

  holder_there : (at : Slot) (x : Descriptor) → map.get k.descriptors at ≡ Some x → (process : Process) × (map.get k.processes at.pid ≡ Some process)
  unfolding kernel_of
  holder_there at x found =
      let of = each_made slot_total slot_exact IsOfProcess (flat_map descriptor_entries s.processes) (listed_slots s.processes (among s.processes [])) at x found in
      found_at vpid_total vpid_exact k.processes at.pid (ap is_some (map.get-from_entries vpid_total (each process_entry s.processes) at.pid) ∙ of)

  -- with its place among those of its process
  record IsOwned (at : Slot) (x : Descriptor) : Type 0 where
    process : Process
    there : map.get k.processes at.pid ≡ Some process
    one : (IsListed s is) at.pid process
    front : List (Slot × Descriptor)
    split : IsSplit slot_total slot_exact (own k.descriptors at.pid) front (at, x)
    fits : DescriptorFits s.descriptions (each descriptor_image front) (descriptor_image (at, x))

  owned : (at : Slot) (x : Descriptor) → map.get k.descriptors at ≡ Some x → IsOwned at x
  owned at x found =
      let (process, there) = holder_there at x found in
      let one = (listed s is) at.pid process there in
      let mine = subst (λ (es : List (Slot × Descriptor)). EachFrom (DescriptorFits s.descriptions) [] (each descriptor_image es)) (sym (own_entries k.descriptors at.pid)) one.fits.descriptors in
      let (front, split, fits) = each_from slot_total slot_exact descriptor_image (own k.descriptors at.pid) (DescriptorFits s.descriptions) mine at x (own_there k.descriptors at.pid at x found refl) in
      record { process = process; there = there; one = one; front = front; split = split; fits = fits }

  -- a zombie has none
  holder_lives : (at : Slot) (x : Descriptor) (o : IsOwned at x) (life : Life) → o.process.life ≡ life → lives life ≡ true
  holder_lives at x o Live known = refl
  holder_lives at x o (Zombie status) known =
      let entries : List DescriptorEntry = each descriptor_image (filter (is_of at.pid) (map.entries k.descriptors)) in
      let count = subst (λ (l : Life). field.is_descriptor_count l (length entries) ≡ true) known o.one.fits.descriptor_count.1 in
      let none = equal_numbers (length entries) 0 (and_true (nat_le (length entries) 256) (length entries == 0) count).1 in
      let images = length-map (filter (is_of at.pid) (map.entries k.descriptors)) descriptor_image in
      let mine = ap length (sym (own_entries k.descriptors at.pid) ∙ o.split.whole) in
      let parts = length-append o.front ((at, x) ∷ o.split.rest) in
      absurd (omega (arith, none, images, mine, parts))

  is_described : (d : DescId) → field.is_description s.descriptions d.pid.0 d.num ≡ true → (x : Description) × (map.get k.descriptions d ≡ Some x)
  is_described d listed_there =
      let (e, x, found, pair) = which_image desc_total desc_exact (description_image k.listeners) (λ (it : DescriptionImage). field.is_pair d.pid.0 d.num it.id) k.descriptions
      (subst (λ ds. field.is_description ds d.pid.0 d.num ≡ true) (sym (descriptions_back s is)) listed_there) in
      let same : e ≡ d = pair_is d e pair in
      (x, ap (map.get k.descriptions) (sym same) ∙ found)

  pub descriptors_are : AreDescriptors k.processes k.descriptions k.descriptors
  descriptors_are = record {
    number = λ at x found. let o = owned at x found in below at.fd 256 (and_true (is_above (field.last_descriptor (each descriptor_image o.front)) at.fd) (nat_lt at.fd 256) o.fits.number.1).1;
    alive = λ at x found. let o = owned at x found in (live_there s is) at.pid o.process o.there (holder_lives at x o o.process.life refl);
    described = λ at x found. let o = owned at x found in let (description, known) = is_described x.desc o.fits.described.1 in ap is_some known;
  }

  -- open descriptions
  rightly_held : list_all (whole.is_rightly_held s.channels images) (each (description_image k.listeners) (map.entries k.descriptions)) ≡ true
  rightly_held =
      subst (λ ps. list_all (whole.is_rightly_held s.channels ps) (each (description_image k.listeners) (map.entries k.descriptions)) ≡ true) (sym (processes_back s is))
      (subst (λ ds. list_all (whole.is_rightly_held s.channels s.processes) ds ≡ true) (sym (descriptions_back s is)) (ends s is).held)

  rightly : (d : DescId) (x : Description) → map.get k.descriptions d ≡ Some x → whole.is_rightly_held s.channels images (description_image k.listeners (d, x)) ≡ true
  rightly d x found = from_all desc_total desc_exact (description_image k.listeners) (whole.is_rightly_held s.channels images) k.descriptions rightly_held d x found

  held : (d : DescId) (x : Description) → map.get k.descriptions d ≡ Some x → is_held k.descriptors d ≡ true
  unfolding is_held
  held d x found =
      let some = (and_true (whole.is_held_by_some images d) _ (rightly d x found)).0 in
      let (p, process, there, holds) = which_image vpid_total vpid_exact (process_image k) (whole.holds d) k.processes some in
      let h = holds_it k p process d holds in
      some_among-values slot_total slot_exact (refers_to d) k.descriptors h.at h.descriptor h.found (ap (eq_by_cmp desc_cmp d) h.refers ∙ key_tied desc_total desc_exact d)

  flags_are : (flags : ℕ) → field.is_status_flags flags ≡ true → AreFlags flags
  flags_are flags allowed =
      let (known, mode) = and_true (bit_and flags 0xC03 == flags) (not (bit_and flags 3 == 3)) allowed in
      record {
        known = equal_numbers (bit_and flags 0xC03) flags known;
        mode = λ three.
            let low : bit_and flags 3 ≡ flags % 4 = and_mask flags 2 in
            refused (bit_and flags 3 == 3) mode (ap (λ n. n == 3) (low ∙ three));
      }

  described_at : (d : DescId) (x : Description) → map.get k.descriptions d ≡ Some x
      → (front : List (DescId × Description)) × IsSplit desc_total desc_exact k.descriptions front (d, x) × DescriptionFits VERSION s.next_id s.files s.channels (each (description_image k.listeners) front) (description_image k.listeners (d, x))
  described_at = each_from desc_total desc_exact (description_image k.listeners) k.descriptions (DescriptionFits VERSION s.next_id s.files s.channels)
      (subst (EachFrom (DescriptionFits VERSION s.next_id s.files s.channels) []) (sym (descriptions_back s is)) is.fields.descriptions)

  pub descriptions_are : AreDescriptions k.descriptors k.descriptions
  descriptions_are = record { held = held; flags = λ d x found. let (front, split, fits) = described_at d x found in flags_are x.flags fits.flags.1 }

  -- who holds one
  pub record IsHeldBy (description : DescId × Description) (holder : VPid × Process) : Type 0 where
    pub shares : list_all (whole.may_share (process_image k holder) description.0) images ≡ true
    pub owner : whole.is_owner images (process_image k holder).host description.1.owner ≡ true
    pub host : whole.is_object_of_host s.channels (process_image k holder).host (object_image k.listeners description.1.object) ≡ true

  pub held_by : (at : Slot) (x : Descriptor) (description : Description) → map.get k.descriptors at ≡ Some x → map.get k.descriptions x.desc ≡ Some description → (process : Process) → map.get k.processes at.pid ≡ Some process
      → IsHeldBy (x.desc, description) (at.pid, process)
  held_by at x description found known process there =
      let all = (and_true (whole.is_held_by_some images x.desc) (list_all (whole.is_rightly_held_by s.channels images (description_image k.listeners (x.desc, description))) images) (rightly x.desc description known)).1 in
      let mine = from_all vpid_total vpid_exact (process_image k) (whole.is_rightly_held_by s.channels images (description_image k.listeners (x.desc, description))) k.processes all at.pid process there in
      let one = process_image k (at.pid, process) in
      let shares = list_all (whole.may_share one x.desc) images in
      let owner = whole.is_owner images one.host description.owner in
      let (first, host) = and_true (shares && owner) (whole.is_object_of_host s.channels one.host (object_image k.listeners description.object))
      (follows (whole.holds x.desc one) _ mine (it_holds k at.pid process x.desc (record { at = at; descriptor = x; found = found; mine = refl; refers = refl }))) in
      let (shared, owned_too) = and_true shares owner first in
      record { shares = shared; owner = owned_too; host = host }

  one_host : (a b : Slot) (x y : Descriptor) → map.get k.descriptors a ≡ Some x → map.get k.descriptors b ≡ Some y → x.desc ≡ y.desc → same_host (map.get k.makers a.pid) (map.get k.makers b.pid) ≡ true
  one_host a b x y found too same =
      let o = owned a x found in
      let (other, known) = holder_there b y too in
      let (description, described) = is_described x.desc o.fits.described.1 in
      let shares = (held_by a x description found described o.process o.there).shares in
      let near = from_all vpid_total vpid_exact (process_image k) (whole.may_share (process_image k (a.pid, o.process)) x.desc) k.processes shares b.pid other known in
      let hosts = follows (whole.holds x.desc (process_image k (b.pid, other))) _ near (it_holds k b.pid other x.desc (record { at = b; descriptor = y; found = too; mine = refl; refers = sym same })) in
      (same_hosts s is) a.pid b.pid o.process other o.there known (turned (maker_or (map.get k.makers b.pid)).host (maker_or (map.get k.makers a.pid)).host hosts)
    where
      turned : (m n : ℕ) → (m == n) ≡ true → (n == m) ≡ true
      turned m n is = grind (arith, nat_tests)

  owner_is : (a : Slot) (x : Descriptor) (description : Description) → map.get k.descriptors a ≡ Some x → map.get k.descriptions x.desc ≡ Some description → IsOwner k.processes k.makers a.pid description.owner
  owner_is a x description found described =
      let o = owned a x found in
      ⊎_elim
      (λ nobody. inl (equal_numbers description.owner 0 nobody))
      (λ some.
      let (q, other, known, test) = which_image vpid_total vpid_exact (process_image k) (whole.is_owner_of description.owner (process_image k (a.pid, o.process)).host) k.processes some in
      let (entry, near) = and_true ((q.0 == description.owner) && lives other.life) ((maker_or (map.get k.makers q)).host == (maker_or (map.get k.makers a.pid)).host) test in
      let (same, alive) = and_true (q.0 == description.owner) (lives other.life) entry in
      let number : q.0 ≡ description.owner = equal_numbers q.0 description.owner same in
      let to_pid : q ≡ pid description.owner = λ i. record { 0 = number i } in
      inr (
        subst (λ r. lives_in k.processes r ≡ true) to_pid ((live_there s is) q other known alive),
        subst (λ r. same_host (map.get k.makers a.pid) (map.get k.makers r) ≡ true) to_pid
            ((same_hosts s is) a.pid q o.process other o.there known (turned (maker_or (map.get k.makers q)).host (maker_or (map.get k.makers a.pid)).host near)),
      ))
      (or_either (description.owner == 0) (list_any (whole.is_owner_of description.owner (process_image k (a.pid, o.process)).host) images) (held_by a x description found described o.process o.there).owner)
    where
      turned : (m n : ℕ) → (m == n) ≡ true → (n == m) ≡ true
      turned m n is = grind (arith, nat_tests)

  pub holders_are : AreHolders k.processes k.makers k.descriptors k.descriptions
  holders_are = record { host = one_host; owner = owner_is }

  -- numbers that were given out
  pub opened : Each k.descriptions (λ d description. IsMade s.next_id k.processes k.makers d.pid d.num)
  opened d x found =
      let (front, split, fits) = described_at d x found in
      record {
        known = below d.pid.0 s.next_id (and_true (field.is_maker_after (field.last_description (each (description_image k.listeners) front)) d.pid.0) (nat_lt d.pid.0 s.next_id) fits.maker.1).1;
        word = let word = fits.number.0 in omega (arith, word);
        below = λ m known alive. below_made m known (live_process d.pid alive);
      }
    where
      live_process : (p : VPid) → lives_in k.processes p ≡ true → (process : Process) × (map.get k.processes p ≡ Some process) × (lives process.life ≡ true)
      live_process p alive = live_one k.processes p alive

      below_made : (m : Maker) → map.get k.makers d.pid ≡ Some m → (process : Process) × (map.get k.processes d.pid ≡ Some process) × (lives process.life ≡ true) → d.num < m.made
      below_made m known (process, there, alive) =
          let one = (listed s is) d.pid process there in
          let made = by_life process.life refl alive one in
          let all = subst (λ ds. field.is_above_descriptions d.pid.0 (maker_or (map.get k.makers d.pid)).made ds ≡ true) (sym (descriptions_back s is))
          (and_true (field.is_above_channels d.pid.0 (maker_or (map.get k.makers d.pid)).made s.channels) (field.is_above_descriptions d.pid.0 (maker_or (map.get k.makers d.pid)).made s.descriptions) made).1 in
          let mine = from_all desc_total desc_exact (description_image k.listeners) (λ (it : DescriptionImage). field.is_number_below d.pid.0 (maker_or (map.get k.makers d.pid)).made it.id.pid.0 it.id.num) k.descriptions all d x found in
          let less = below d.num (maker_or (map.get k.makers d.pid)).made (follows (d.pid.0 == d.pid.0) _ mine (same_number d.pid.0)) in
          subst (λ (n : Maker). d.num < n.made) (ap maker_or known) less
        where
          by_life : (life : Life) → process.life ≡ life → lives life ≡ true → (IsListed s is) d.pid process → field.is_made s.channels s.descriptions d.pid.0 (maker_or (map.get k.makers d.pid)).made ≡ true
          by_life Live is_live alive one =
              (and_true (nat_le 0 field.LAST_STATE) (field.is_made s.channels s.descriptions d.pid.0 (maker_or (map.get k.makers d.pid)).made)
              (subst (λ (l : Life). field.is_state s.channels s.descriptions d.pid.0 process.parent (maker_or (map.get k.makers d.pid)).made (state_of l) ≡ true) is_live one.fits.life.state.1)).1
          by_life (Zombie status) is_live alive one = true_false (sym alive)
