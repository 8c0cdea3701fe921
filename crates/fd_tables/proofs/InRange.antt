-- Each descriptor has one of the 256 numbers, also after a change of a process's table.
--     told_in_range, set_in_range      a place of a table is set
--     inserted_in_range                a descriptor is put at its number
--     copied_in_range                  a child's table is a copy of the parent's
use Rattle.std.proofs.Common.{◌≡◌, ◌≢◌, ◌<◌, ℕ, Bool, true, false, cond, Option, Some, None, inl, inr, sym}
use Rattle.std.proofs.Common.{ap, ◌∙◌, subst}
use Rattle.std.specs.Bool.{OnTrue, OnFalse}
use Rattle.std.specs.Ordering.{eq_by_cmp}
use Rattle.std.specs.FinMap as map
use Rattle.std.specs.FinMap.{FinMap}
use Rattle.std.proofs.lemmas.Option.{none-some}
use Rattle.sys_abi.proofs.OfViews.MapLaws.{same_or_other, other_key, get_insert_other}
use Rattle.sys_abi.specs.declared.identity.RealPid.{RealPid}
use Rattle.sys_abi.proofs.OrderLaws.{real_pid_total, real_pid_exact}
use Rattle.fd_tables.specs.declared.real_slot.RealSlot.{RealSlot}
use Rattle.sys_abi.specs.declared.descriptor.Descriptor.{Descriptor}
use Rattle.fd_tables.specs.Orders.{real_slot_cmp}
use Rattle.fd_tables.specs.Slots.{slot, AreInRange}
use Rattle.fd_tables.specs.Tables.{descriptors_of}
use Rattle.fd_tables.proofs.OrderLaws.{real_slot_total, real_slot_exact}
use Rattle.fd_tables.proofs.TableViews.{Trees, IsTold, seen}

pub empty_in_range : (m : FinMap real_slot_cmp Descriptor) → m ≡ map.empty → AreInRange m
empty_in_range m none at d is =
    let nothing = ap (λ w. map.get w at) none ∙ map.get-empty {X = Descriptor} real_slot_cmp at in
    absurd (none-some d (sym nothing ∙ is))

pub told_in_range : (m n : FinMap real_slot_cmp Descriptor) (p : RealPid) (fd : ℕ) (place : Option Descriptor)
    → fd < 256 → IsTold m n (slot p fd) place → AreInRange m → AreInRange n
told_in_range m n p fd place within told before at d is =
    elim (same_or_other real_slot_total real_slot_exact at (slot p fd)) [
      | inl same ↦ subst (λ q. q.fd < 256) (sym same) within
      | inr other ↦
          let apart = other_key real_slot_total real_slot_exact at (slot p fd) other in
          before at d (sym (told at ∙ ap (λ b. cond b place (map.get m at)) apart) ∙ is)
    ]

pub set_in_range : (b : Bool) (m n : Trees) (p : RealPid) (fd : ℕ) (place : Option Descriptor) → fd < 256
    → OnTrue b (IsTold (seen m) (seen n) (slot p fd) place) → OnFalse b (n.entries ≡ m.entries)
    → AreInRange (seen m) → AreInRange (seen n)
set_in_range true m n p fd place within told same before =
    told_in_range (seen m) (seen n) p fd place within told before
set_in_range false m n p fd place within told same before =
    subst AreInRange (ap (λ es. descriptors_of (map.from_entries es)) (sym same)) before

pub copied_in_range : (m n : FinMap real_slot_cmp Descriptor) (p child : RealPid)
    → ((fd : ℕ) → map.get n (slot child fd) ≡ map.get m (slot p fd))
    → ((q : RealSlot) → q.pid ≢ child → map.get n q ≡ map.get m q) → AreInRange m → AreInRange n
copied_in_range m n p child copied others before at d is =
    elim (same_or_other real_pid_total real_pid_exact at.pid child) [
      | inl same ↦ before (slot p at.fd) d (sym (ap (λ q. map.get n (slot q at.fd)) same ∙ copied at.fd) ∙ is)
      | inr other ↦ before at d (sym (others at other) ∙ is)
    ]

pub inserted_in_range : (m n : FinMap real_slot_cmp Descriptor) (at : RealSlot) (d : Descriptor) → at.fd < 256
    → n ≡ map.insert m at d
    → AreInRange m → AreInRange n
inserted_in_range m n at d within is before q e there =
    elim (same_or_other real_slot_total real_slot_exact q at) [
      | inl same ↦ subst (λ k. k.fd < 256) (sym same) within
      | inr other ↦
          let beside = ap (λ w. map.get w q) is
          ∙ get_insert_other real_slot_total real_slot_exact m at d q other in
          before q e (sym beside ∙ there)
    ]
