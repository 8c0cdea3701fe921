-- The order of descriptors of real processes is total and ties only equal ones.
use Rattle.std.proofs.Common.{ℕ, ap}
use Rattle.std.specs.Ordering.{nat_cmp}
use Rattle.std.specs.Cmp.{IsTotalOrder, nat_cmp_total}
use Rattle.std.specs.FinMap.{IsAntisymmetric, nat_cmp-IsAntisymmetric}
use Rattle.std.proofs.lemmas.Cmp.{on_total, then_total}
use Rattle.std.proofs.lemmas.Map.Lookups.{exact_pairs}
use Rattle.sys_abi.specs.declared.identity.RealPid.{RealPid}
use Rattle.fd_tables.specs.Orders.{real_slot_cmp}
use Rattle.sys_abi.specs.Orders.{real_pid_cmp}
use Rattle.sys_abi.proofs.OrderLaws.{real_pid_total, real_pid_exact}

pub real_slot_total : IsTotalOrder real_slot_cmp
real_slot_total = then_total (on_total (λ a. a.pid) real_pid_total) (on_total (λ a. a.fd) nat_cmp_total)

pub real_slot_exact : IsAntisymmetric real_slot_cmp
real_slot_exact a b e = ap (λ (p : RealPid × ℕ). record { pid = p.0; fd = p.1 }) (exact_pairs real_pid_cmp nat_cmp real_pid_exact nat_cmp-IsAntisymmetric (a.pid, a.fd) (b.pid, b.fd) e)
