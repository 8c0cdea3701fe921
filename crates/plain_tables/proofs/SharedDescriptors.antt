-- A child has its parent's descriptors.
--     shared_was, shared_kept, shared_own      look-ups after a fork, those of others than the child, those of the parent
--     shared_next      one number after the other      shared_descriptors, shared_descriptions, shared_holders, shared_hosts
use Rattle.std.proofs.Common.{◌≡◌, ◌≢◌, ℕ, ◌+◌, ◌<◌, true, refl, sym, ap, subst, ◌∙◌, inl, inr, arith, ⊎_elim}
use Rattle.std.specs.Prelude.{◌==◌, ◌⊎◌, zero, suc, Option, Some, None, option_map}
use Rattle.std.specs.FinMap as map
use Rattle.plain_process.proofs.OfViews.MapLaws.{get_insert_same, get_insert_other, same_or_other, true_false}
use Rattle.id_maps.specs.OfSysAbi.declared.identity.VPid.{VPid}
use Rattle.id_maps.specs.OfSysAbi.declared.identity.Slot.{Slot}
use Rattle.id_maps.proofs.OfSysAbi.OrderLaws.{slot_total, slot_exact}
use Rattle.id_maps.specs.OfSysAbi.declared.maker.Maker.{Maker}
use Rattle.id_maps.specs.OfSysAbi.declared.descriptor.Descriptor.{Descriptor}
use Rattle.plain_tables.specs.Tables.{Processes, Makers, Descriptors, Descriptions, Channels, Listeners, pid, slot, lives_in, refers_to, is_held, same_host}
use Rattle.plain_tables.specs.Ends.{shared_at, shared_below}
use Rattle.plain_tables.specs.Valid.Descriptions.{AreDescriptors, AreDescriptions, AreHolders, IsOwner}
use Rattle.plain_tables.specs.Valid.Sockets.{AreHosts, has_host}
use Rattle.plain_tables.proofs.Entries.{any_kept}

-- where a descriptor comes from: its own slot, or its parent's
pub record Origin (p child : VPid) (descriptors : Descriptors) (at : Slot) (descriptor : Descriptor) : Type 0 where
  pub from : Slot
  pub there : map.get descriptors from ≡ Some descriptor
  pub fd : from.fd ≡ at.fd
  pub holder : (from.pid ≡ at.pid) ⊎ ((at.pid ≡ child) × (from.pid ≡ p))

module _ (p child : VPid) (descriptors : Descriptors) where
  was_by : (n : ℕ) (at : Slot) (descriptor : Descriptor) (rest : Descriptors) → (map.get rest at ≡ Some descriptor → Origin p child descriptors at descriptor)
      → (parents : Option Descriptor) → map.get descriptors (slot p n) ≡ parents → map.get (shared_at child n parents rest) at ≡ Some descriptor → Origin p child descriptors at descriptor
  was_by n at descriptor rest earlier None none found = earlier found
  was_by n at descriptor rest earlier (Some x) there found = ⊎_elim
      (λ here.
      let at_child : map.get (map.insert rest (slot child n) x) (slot child n) ≡ Some descriptor = subst (λ r. map.get (map.insert rest (slot child n) x) r ≡ Some descriptor) here found in
      let same : x ≡ descriptor = let put = get_insert_same slot_total slot_exact rest (slot child n) x in cc in
      record {
        from = slot p n;
        there = there ∙ ap Some same;
        fd = ap (λ (s : Slot). s.fd) (sym here);
        holder = inr (ap (λ (s : Slot). s.pid) here, refl);
      })
      (λ other. earlier (sym (get_insert_other slot_total slot_exact rest (slot child n) x at other) ∙ found))
      (same_or_other slot_total slot_exact at (slot child n))

  pub shared_was : (n : ℕ) (at : Slot) (descriptor : Descriptor) → map.get (shared_below p child descriptors n) at ≡ Some descriptor → Origin p child descriptors at descriptor
  unfolding shared_below
  shared_was zero at descriptor found = record { from = at; there = found; fd = refl; holder = inl refl }
  shared_was (suc n) at descriptor found = was_by n at descriptor (shared_below p child descriptors n) (shared_was n at descriptor) (map.get descriptors (slot p n)) refl found

  kept_by : (n : ℕ) (at : Slot) (rest : Descriptors) → at.pid ≢ child → map.get rest at ≡ map.get descriptors at → (parents : Option Descriptor) → map.get (shared_at child n parents rest) at ≡ map.get descriptors at
  kept_by n at rest other earlier None = earlier
  kept_by n at rest other earlier (Some x) = get_insert_other slot_total slot_exact rest (slot child n) x at (λ same. other (ap (λ (s : Slot). s.pid) same)) ∙ earlier

  pub shared_kept : (n : ℕ) (at : Slot) → at.pid ≢ child → map.get (shared_below p child descriptors n) at ≡ map.get descriptors at
  unfolding shared_below
  shared_kept zero at other = refl
  shared_kept (suc n) at other = kept_by n at (shared_below p child descriptors n) other (shared_kept n at other) (map.get descriptors (slot p n))

  -- the parent's own, whoever is the child
  own_by : (n fd : ℕ) (rest : Descriptors) → map.get rest (slot p fd) ≡ map.get descriptors (slot p fd) → (parents : Option Descriptor) → map.get descriptors (slot p n) ≡ parents
      → map.get (shared_at child n parents rest) (slot p fd) ≡ map.get descriptors (slot p fd)
  own_by n fd rest earlier None there = earlier
  own_by n fd rest earlier (Some x) there = ⊎_elim
      (λ here.
      let same_fd : fd ≡ n = ap (λ (s : Slot). s.fd) here in
      ap (map.get (map.insert rest (slot child n) x)) here ∙ get_insert_same slot_total slot_exact rest (slot child n) x ∙ sym there ∙ ap (λ m. map.get descriptors (slot p m)) (sym same_fd))
      (λ other. get_insert_other slot_total slot_exact rest (slot child n) x (slot p fd) other ∙ earlier)
      (same_or_other slot_total slot_exact (slot p fd) (slot child n))

  pub shared_own : (n fd : ℕ) → map.get (shared_below p child descriptors n) (slot p fd) ≡ map.get descriptors (slot p fd)
  unfolding shared_below
  shared_own zero fd = refl
  shared_own (suc n) fd = own_by n fd (shared_below p child descriptors n) (shared_own n fd) (map.get descriptors (slot p n)) refl

  -- one number more, where those below it are shared
  pub shared_next : (n : ℕ) (shared : Descriptors) → shared ≡ shared_below p child descriptors n → shared_at child n (map.get shared (slot p n)) shared ≡ shared_below p child descriptors (n + 1)
  unfolding shared_below
  shared_next n shared is =
      let next : suc n ≡ n + 1 = omega arith in
      ap (λ ds. shared_at child n (map.get ds (slot p n)) ds) is ∙ ap (λ found. shared_at child n found (shared_below p child descriptors n)) (shared_own n n) ∙ ap (shared_below p child descriptors) next

-- hosts alone decide
abbrev pub host_at : Option Maker → Option ℕ
host_at found = option_map (λ (m : Maker). m.host) found

pub same_host_by : (a b c d : Option Maker) → host_at a ≡ host_at c → host_at b ≡ host_at d → same_host c d ≡ true → same_host a b ≡ true
same_host_by None b None d one two same = same
same_host_by None b (Some c) d one two same = let differ : None ≡ Some c.host = one in cc
same_host_by (Some a) b None d one two same = true_false (sym same)
same_host_by (Some a) None (Some c) None one two same = same
same_host_by (Some a) None (Some c) (Some d) one two same = let differ : None ≡ Some d.host = two in cc
same_host_by (Some a) (Some b) (Some c) None one two same = let differ : Some b.host ≡ None = two in cc
same_host_by (Some a) (Some b) (Some c) (Some d) one two same =
    let first : a.host ≡ c.host = cc in
    let second : b.host ≡ d.host = cc in
    ap (λ h. h == b.host) first ∙ ap (λ h. c.host == h) second ∙ same

pub has_host_by : (a b : Option Maker) (host : ℕ) → host_at a ≡ host_at b → has_host b host ≡ true → has_host a host ≡ true
has_host_by None None host same has = has
has_host_by None (Some b) host same has = let differ : None ≡ Some b.host = same in cc
has_host_by (Some a) None host same has = true_false (sym has)
has_host_by (Some a) (Some b) host same has = let hosts : a.host ≡ b.host = cc in ap (λ h. h == host) hosts ∙ has

module _ (p child : VPid) (descriptors : Descriptors) (descriptions : Descriptions) (processes : Processes) (makers : Makers) (n : ℕ) (held : AreDescriptors processes descriptions descriptors)
    (mine : lives_in processes child ≡ true) (alike : host_at (map.get makers child) ≡ host_at (map.get makers p)) (empty : (at : Slot) (x : Descriptor) → map.get descriptors at ≡ Some x → at.pid ≢ child) where
  shared : Descriptors
  shared = shared_below p child descriptors n

  pub shared_descriptors : AreDescriptors processes descriptions (shared_below p child descriptors n)
  shared_descriptors = record {
    number = λ at x found. let from = shared_was p child descriptors n at x found in subst (λ fd. fd < 256) from.fd (held.number from.from x from.there);
    alive = λ at x found.
        let from = shared_was p child descriptors n at x found in
        ⊎_elim (λ own. subst (λ q. lives_in processes q ≡ true) own (held.alive from.from x from.there)) (λ new. subst (λ q. lives_in processes q ≡ true) (sym new.0) mine) from.holder;
    described = λ at x found. let from = shared_was p child descriptors n at x found in held.described from.from x from.there;
  }

  pub shared_descriptions : AreDescriptions descriptors descriptions → AreDescriptions (shared_below p child descriptors n) descriptions
  unfolding is_held
  shared_descriptions is = record {
    held = λ d x found. any_kept slot_total slot_exact (refers_to d) descriptors (shared_below p child descriptors n)
        (λ at y there refers. (y, shared_kept p child descriptors n at (empty at y there) ∙ there, refers)) (is.held d x found);
    flags = is.flags;
  }

  -- a holder's host is that of where its descriptor comes from
  host_from : (at : Slot) (x : Descriptor) (from : Origin p child descriptors at x) → host_at (map.get makers at.pid) ≡ host_at (map.get makers from.from.pid)
  host_from at x from = ⊎_elim
      (λ own. ap (λ q. host_at (map.get makers q)) (sym own))
      (λ new. ap (λ q. host_at (map.get makers q)) new.0 ∙ alike ∙ ap (λ q. host_at (map.get makers q)) (sym new.1))
      from.holder

  owner_from : (holder other : VPid) (owner : ℕ) → host_at (map.get makers holder) ≡ host_at (map.get makers other) → IsOwner processes makers other owner → IsOwner processes makers holder owner
  owner_from holder other owner same is = ⊎_elim (λ nobody. inl nobody)
      (λ one. inr (one.0, same_host_by (map.get makers holder) (map.get makers (pid owner)) (map.get makers other) (map.get makers (pid owner)) same refl one.1)) is

  pub shared_holders : AreHolders processes makers descriptors descriptions → AreHolders processes makers (shared_below p child descriptors n) descriptions
  shared_holders is = record {
    host = λ a b x y found too same.
        let from = shared_was p child descriptors n a x found in
        let to = shared_was p child descriptors n b y too in
        same_host_by (map.get makers a.pid) (map.get makers b.pid) (map.get makers from.from.pid) (map.get makers to.from.pid) (host_from a x from) (host_from b y to) (is.host from.from to.from x y from.there to.there same);
    owner = λ a x description found known.
        let from = shared_was p child descriptors n a x found in
        owner_from a.pid from.from.pid description.owner (host_from a x from) (is.owner from.from x description from.there known);
  }

  pub shared_hosts : (listeners : Listeners) (channels : Channels) → AreHosts makers descriptors descriptions listeners channels → AreHosts makers (shared_below p child descriptors n) descriptions listeners channels
  shared_hosts listeners channels is = record {
    held = λ a x description host found known on.
        let from = shared_was p child descriptors n a x found in
        has_host_by (map.get makers a.pid) (map.get makers from.from.pid) host (host_from a x from) (is.held from.from x description host from.there known on);
    pending = is.pending;
  }
