-- A child has its parent's descriptors, on the plain side and through the pairs.
--     shared_all                  what stands at the child's numbers
--     SameDescriptors-shared      the real tables then have what the plain ones have, by the pairs with the
--                                 child's
use Rattle.std.proofs.Common.{◌≡◌, ◌≢◌, ◌⊎◌, ℕ, zero, suc, ◌<◌, ◌≤◌, Option, Some, None, inl, inr, refl, sym, ap, ◌∙◌, arith}
use Rattle.std.specs.Prelude.{option_map}
use Rattle.std.specs.Cmp.{nat_cmp_total}
use Rattle.std.specs.FinMap as map
use Rattle.std.specs.FinMap.{nat_cmp-IsAntisymmetric}
use Rattle.std.proofs.lemmas.Option.{same_Some, none-some}
use Rattle.views.specs.Limits.{DESCRIPTOR_LIMIT}
use Rattle.views.specs.Seen.{Agree}
use Rattle.views.proofs.MapLaws.{same_or_other, get_insert_same, get_insert_other}
use Rattle.views.proofs.Seen.{agree_by}
use Rattle.sys_abi.specs.declared.descriptor.Descriptor.{Descriptor}
use Rattle.sys_abi.specs.declared.identity.VPid.{VPid}
use Rattle.sys_abi.specs.declared.identity.RealPid.{RealPid}
use Rattle.sys_abi.specs.declared.identity.Slot.{Slot}
use Rattle.sys_abi.proofs.OrderLaws.{slot_total, slot_exact}
use Rattle.fd_tables.specs.declared.real_slot.RealSlot.{RealSlot}
use Rattle.fd_tables.specs.Slots as slots
use Rattle.fd_book.specs.Books.{Books}
use Rattle.virt_ids.specs.Pairs.{AreInverse}
use Rattle.plain_tables.specs.Ends.{shared_at, shared_below}
use Rattle.plain_tables.specs.Tables.{Descriptors, pid, slot}
use Rattle.plain_tables.proofs.SharedDescriptors.{shared_kept}
use Rattle.host_descriptors.specs.OfHostTables.Numbers.{Pids, Virts}
use Rattle.host_descriptors.specs.OfHostTables.Processes.{SameDescriptors}
use Rattle.host_descriptors.proofs.OfHostTables.LookUps.{at_slot}
use Rattle.host_descriptors.proofs.OfHostTables.MorePairs.{pids', virts', real_here, virt_here, real_was, real_none, virt_none}
use Rattle.host_processes.specs.Forks.{HasShared}

-- the plain side

module _ (p child : VPid) (m : Descriptors) (new : (fd : ℕ) → map.get m (slot child fd) ≡ None) where
  slots_apart : (fd n : ℕ) → fd ≢ n → slot child fd ≢ slot child n
  slots_apart fd n differ same = differ (ap (λ (s : Slot). s.fd) same)

  beside : (n fd : ℕ) (o : Option Descriptor) (acc : Descriptors) → fd ≢ n
      → map.get (shared_at child n o acc) (slot child fd) ≡ map.get acc (slot child fd)
  beside n fd None acc differ = refl
  beside n fd (Some d) acc differ =
      get_insert_other slot_total slot_exact acc (slot child n) d (slot child fd) (slots_apart fd n differ)

  here : (n : ℕ) (o : Option Descriptor) (acc : Descriptors) → map.get acc (slot child n) ≡ None
      → map.get (shared_at child n o acc) (slot child n) ≡ o
  here n None acc none = none
  here n (Some d) acc none = get_insert_same slot_total slot_exact acc (slot child n) d

  above : (n fd : ℕ) → suc n ≤ fd → fd ≢ n
  above n fd h same = omega (arith, h, same)

  not_yet : (n fd : ℕ) → n ≤ fd → map.get (shared_below p child m n) (slot child fd) ≡ None
  unfolding shared_below
  not_yet zero fd h = new fd
  not_yet (suc n) fd h =
      beside n fd (map.get m (slot p n)) (shared_below p child m n) (above n fd h)
      ∙ not_yet n fd (omega (arith, h))

  never : (fd : ℕ) → fd < 0 → ⊥
  never fd h = omega (arith, h)

  less : (n fd : ℕ) → fd < suc n → fd ≢ n → fd < n
  less n fd h differ = omega (arith, h, differ)

  shared_same : (n fd : ℕ) → fd < n
      → map.get (shared_below p child m n) (slot child fd) ≡ map.get m (slot p fd)
  unfolding shared_below
  shared_same zero fd h = absurd (never fd h)
  shared_same (suc n) fd h = elim (same_or_other nat_cmp_total nat_cmp-IsAntisymmetric fd n) [
    | inl same ↦
        ap (λ x. map.get (shared_at child n (map.get m (slot p n)) (shared_below p child m n)) (slot child x))
        same
        ∙ here n (map.get m (slot p n)) (shared_below p child m n) (not_yet n n (omega arith))
        ∙ ap (λ x. map.get m (slot p x)) (sym same)
    | inr differ ↦
        beside n fd (map.get m (slot p n)) (shared_below p child m n) differ
        ∙ shared_same n fd (less n fd h differ)
  ]

  low_or_high : (n fd : ℕ) → (fd < n) ⊎ (n ≤ fd)
  low_or_high n fd = grind arith

  -- below a number from which on the parent has none
  all_by : (n : ℕ) → ((fd : ℕ) → n ≤ fd → map.get m (slot p fd) ≡ None) → (fd : ℕ)
      → map.get (shared_below p child m n) (slot child fd) ≡ map.get m (slot p fd)
  all_by n in_range fd = elim (low_or_high n fd) [
    | inl h ↦ shared_same n fd h
    | inr h ↦ not_yet n fd h ∙ sym (in_range fd h)
  ]

  pub shared_all : ((fd : ℕ) → DESCRIPTOR_LIMIT ≤ fd → map.get m (slot p fd) ≡ None) → (fd : ℕ)
      → map.get (shared_below p child m DESCRIPTOR_LIMIT) (slot child fd) ≡ map.get m (slot p fd)
  shared_all = all_by DESCRIPTOR_LIMIT

-- through the pairs

same_agree : {X : Type 0} (o q : Option X) → o ≡ q → Agree (λ x y. x ≡ y) o q
same_agree None None e = tt
same_agree None (Some y) e = none-some y e
same_agree (Some x) None e = none-some x (sym e)
same_agree (Some x) (Some y) e = same_Some x y e

none_of : (o : Option RealPid) (fd : ℕ) → option_map (λ x. slots.slot x fd) o ≡ None → o ≡ None
none_of None fd e = refl
none_of (Some x) fd e = absurd (none-some (slots.slot x fd) (sym e))

none_back : (o : Option ℕ) (fd : ℕ) → option_map (λ q. slot q fd) (option_map pid o) ≡ None → o ≡ None
none_back None fd e = refl
none_back (Some w) fd e = absurd (none-some (slot (pid w) fd) (sym e))

module _ (pids : Pids) (virts : Virts) (inverse : AreInverse pids virts) (v : ℕ) (r : RealPid)
    (new_v : map.get pids v ≡ None) (new_r : map.get virts r ≡ None) (p : VPid) (who : RealPid)
    (paired : map.get pids p.0 ≡ Some who) (virt : Descriptors) (old new : Books)
    (same : SameDescriptors pids virts virt old.descriptors) (shared : HasShared r who old new)
    (in_range : (fd : ℕ) → DESCRIPTOR_LIMIT ≤ fd → map.get virt (slot p fd) ≡ None) where
  abbrev then_pids : Pids
  then_pids = pids' pids virts inverse v r new_v new_r

  abbrev then_virts : Virts
  then_virts = virts' pids virts inverse v r new_v new_r

  abbrev after : Descriptors
  after = shared_below p (pid v) virt DESCRIPTOR_LIMIT

  others : (at : Slot) → at.pid ≢ pid v → map.get after at ≡ map.get virt at
  others = shared_kept p (pid v) virt DESCRIPTOR_LIMIT

  nothing : (fd : ℕ) → map.get virt (slot (pid v) fd) ≡ None
  nothing fd = same.virt_alone (slot (pid v) fd) (ap (option_map (λ x. slots.slot x fd)) new_v)

  at_child : (fd : ℕ) → map.get after (slot (pid v) fd) ≡ map.get new.descriptors (slots.slot r fd)
  at_child fd =
      shared_all p (pid v) virt nothing in_range fd
      ∙ at_slot pids virts old.descriptors virt same p who paired fd ∙ sym (shared.same fd)

  not_new : (w : ℕ) (x : RealPid) → map.get pids w ≡ Some x → x ≢ r
  not_new w x is e = none-some w (sym new_r ∙ ap (map.get virts) (sym e) ∙ inverse.leads_back w x is)

  -- where a slot leads by the pairs with one more
  agree_at : (at : Slot) (s : RealSlot) (o : Option RealPid) → map.get then_pids at.pid.0 ≡ o
      → option_map (λ x. slots.slot x at.fd) o ≡ Some s
      → Agree (λ x y. x ≡ y) (map.get after at) (map.get new.descriptors s)
  agree_at at s None e leads = absurd (none-some s leads)
  agree_at at s (Some x) e leads =
      elim (real_was pids virts inverse v r new_v new_r at.pid.0 x e) [
        | inl here ↦
            same_agree _ _ ((λ i. map.get after (slot (pid (here.0 i)) at.fd)) ∙ at_child at.fd
            ∙ ap (map.get new.descriptors)
            ((λ i. slots.slot (sym here.1 i) at.fd) ∙ same_Some _ s leads))
        | inr before ↦
            agree_by (λ x y. x ≡ y) _ _ _ _
            (others at (λ is. before.0 (ap (λ (q : VPid). q.0) is)))
            (shared.others s (λ is.
            not_new at.pid.0 x before.1 (ap (λ (t : RealSlot). t.pid) (same_Some _ s leads) ∙ is)))
            (same.at at s (ap (option_map (λ y. slots.slot y at.fd)) before.1 ∙ leads))
      ]

  virt_nothing : (at : Slot) → map.get then_pids at.pid.0 ≡ None → map.get after at ≡ None
  virt_nothing at none =
      others at (λ is. none-some r (sym none ∙ ap (λ (q : VPid). map.get then_pids q.0) is
      ∙ real_here pids virts inverse v r new_v new_r))
      ∙ same.virt_alone at (ap (option_map (λ x. slots.slot x at.fd))
      (real_none pids virts inverse v r new_v new_r at.pid.0 none))

  real_nothing : (s : RealSlot) → map.get then_virts s.pid ≡ None → map.get new.descriptors s ≡ None
  real_nothing s none =
      shared.others s (λ is. none-some v (sym none ∙ ap (map.get then_virts) is
      ∙ virt_here pids virts inverse v r new_v new_r))
      ∙ same.real_alone s (ap (λ o. option_map (λ q. slot q s.fd) (option_map pid o))
      (virt_none pids virts inverse v r new_v new_r s.pid none))

  pub SameDescriptors-shared : SameDescriptors then_pids then_virts after new.descriptors
  SameDescriptors-shared = record {
    at = λ at s leads. agree_at at s (map.get then_pids at.pid.0) refl leads;
    virt_alone = λ at none. virt_nothing at (none_of _ at.fd none);
    real_alone = λ s none. real_nothing s (none_back _ s.fd none);
  }
