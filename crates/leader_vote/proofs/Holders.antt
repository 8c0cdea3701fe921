-- The test of a holder is the fact.
--     is_holder-from_IsHolder, IsHolder-from_is_holder      from the fact to the test, and back;  both are `tests_holders`
use Rattle.std.proofs.Common.{◌≡◌, Bool, true, false, ◌&&◌, refl, sym, ap, ◌∙◌}
use Rattle.std.specs.Ordering.{eq_by_cmp}
use Rattle.std.specs.FinMap as map
use Rattle.std.specs.FinMap.{FinMap}
use Rattle.views.proofs.MapLaws.{true_false, key_tied, same_key}
use Rattle.sys_abi.specs.declared.identity.DescId.{DescId}
use Rattle.sys_abi.specs.declared.identity.RealPid.{RealPid}
use Rattle.sys_abi.specs.Orders.{desc_cmp, real_pid_cmp}
use Rattle.sys_abi.proofs.OrderLaws.{desc_total, desc_exact, real_pid_total, real_pid_exact}
use Rattle.fd_tables.specs.declared.real_slot.RealSlot.{RealSlot}
use Rattle.sys_abi.specs.declared.descriptor.Descriptor.{Descriptor}
use Rattle.fd_tables.specs.Orders.{real_slot_cmp}
use Rattle.fd_tables.specs.Slots.{slot, refers_to, IsHolder}
use Rattle.fd_tables.proofs.OrderLaws.{real_slot_total, real_slot_exact}
use Rattle.leader_vote.specs.Elections.{is_holder, TestsHolders}
use Rattle.leader_vote.proofs.Entries.{some_entry, entry_that_passes}

first_true : (a b : Bool) → (a && b) ≡ true → a ≡ true
first_true true b is = refl
first_true false b is = true_false (sym is)

second_true : (a b : Bool) → (a && b) ≡ true → b ≡ true
second_true true b is = is
second_true false b is = true_false (sym is)

abbrev is_of : DescId → RealPid → RealSlot → Descriptor → Bool
is_of id p at d = eq_by_cmp real_pid_cmp p at.pid && refers_to id d

pub refers-same : (id : DescId) (d : Descriptor) → d.desc ≡ id → refers_to id d ≡ true
refers-same id d same = ap (λ i. eq_by_cmp desc_cmp i d.desc) (sym same) ∙ key_tied desc_total desc_exact d.desc

pub same-refers : (id : DescId) (d : Descriptor) → refers_to id d ≡ true → d.desc ≡ id
same-refers id d refers = sym (same_key desc_total desc_exact id d.desc refers)

pub is_holder-from_IsHolder : (m : FinMap real_slot_cmp Descriptor) (id : DescId) (p : RealPid) → IsHolder m id p → is_holder m id p ≡ true
unfolding is_holder
is_holder-from_IsHolder m id p holds =
    some_entry real_slot_total real_slot_exact (is_of id p) m (slot p holds.0) holds.1 holds.2
    (λ i. key_tied real_pid_total real_pid_exact p i && refers-same id holds.1 holds.3 i)

pub IsHolder-from_is_holder : (m : FinMap real_slot_cmp Descriptor) (id : DescId) (p : RealPid) → is_holder m id p ≡ true → IsHolder m id p
unfolding is_holder
IsHolder-from_is_holder m id p found =
    let entry = entry_that_passes real_slot_total real_slot_exact (is_of id p) m found in
    let same_pid : p ≡ entry.0.pid = same_key real_pid_total real_pid_exact p entry.0.pid (first_true _ _ entry.3) in
    (entry.0.fd, entry.1, ap (λ q. map.get m (slot q entry.0.fd)) same_pid ∙ entry.2, same-refers id entry.1 (second_true (eq_by_cmp real_pid_cmp p entry.0.pid) (refers_to id entry.1) entry.3))

pub tests_holders : TestsHolders
tests_holders m id p = (IsHolder-from_is_holder m id p, is_holder-from_IsHolder m id p)
