-- Each order of ids is total and ties only equal ids.
use Rattle.std.proofs.Common.{ℕ, ap}
use Rattle.std.specs.Ordering.{nat_cmp}
use Rattle.std.specs.Cmp.{IsTotalOrder, nat_cmp_total}
use Rattle.std.specs.FinMap.{IsAntisymmetric, nat_cmp-IsAntisymmetric, slice_cmp-IsAntisymmetric}
use Rattle.std.specs.Cmp.Lexicographic.{nat_list_cmp_total}
use Rattle.sys_abi.specs.Names.{name_cmp}
use Rattle.std.proofs.lemmas.Cmp.{on_total, then_total}
use Rattle.std.proofs.lemmas.Map.Lookups.{exact_pairs}
use Rattle.sys_abi.specs.declared.identity.VPid.{VPid}
use Rattle.sys_abi.specs.declared.identity.ConnId.{ConnId}
use Rattle.sys_abi.specs.Orders.{vpid_cmp, slot_cmp, desc_cmp, conn_cmp, dir_cmp, address_cmp, real_pid_cmp, real_address_cmp}

pub vpid_total : IsTotalOrder vpid_cmp
vpid_total = on_total (λ a. a.0) nat_cmp_total

pub vpid_exact : IsAntisymmetric vpid_cmp
vpid_exact a b e = ap (λ (n : ℕ). record { 0 = n }) (nat_cmp-IsAntisymmetric a.0 b.0 e)

pub slot_total : IsTotalOrder slot_cmp
slot_total = then_total (on_total (λ a. a.pid.0) nat_cmp_total) (on_total (λ a. a.fd) nat_cmp_total)

pub slot_exact : IsAntisymmetric slot_cmp
slot_exact a b e = ap (λ (p : VPid × ℕ). record { pid = p.0; fd = p.1 }) (exact_pairs vpid_cmp nat_cmp vpid_exact nat_cmp-IsAntisymmetric (a.pid, a.fd) (b.pid, b.fd) e)

pub desc_total : IsTotalOrder desc_cmp
desc_total = then_total (on_total (λ a. a.pid.0) nat_cmp_total) (on_total (λ a. a.num) nat_cmp_total)

pub desc_exact : IsAntisymmetric desc_cmp
desc_exact a b e = ap (λ (p : VPid × ℕ). record { pid = p.0; num = p.1 }) (exact_pairs vpid_cmp nat_cmp vpid_exact nat_cmp-IsAntisymmetric (a.pid, a.num) (b.pid, b.num) e)

pub conn_total : IsTotalOrder conn_cmp
conn_total = then_total (on_total (λ a. a.pid.0) nat_cmp_total) (on_total (λ a. a.num) nat_cmp_total)

pub conn_exact : IsAntisymmetric conn_cmp
conn_exact a b e = ap (λ (p : VPid × ℕ). record { pid = p.0; num = p.1 }) (exact_pairs vpid_cmp nat_cmp vpid_exact nat_cmp-IsAntisymmetric (a.pid, a.num) (b.pid, b.num) e)

pub dir_total : IsTotalOrder dir_cmp
dir_total = then_total (on_total (λ a. a.conn) conn_total) (on_total (λ a. a.side) nat_cmp_total)

pub dir_exact : IsAntisymmetric dir_cmp
dir_exact a b e = ap (λ (p : ConnId × ℕ). record { conn = p.0; side = p.1 }) (exact_pairs conn_cmp nat_cmp conn_exact nat_cmp-IsAntisymmetric (a.conn, a.side) (b.conn, b.side) e)

pub address_total : IsTotalOrder address_cmp
address_total = then_total (on_total (λ a. a.host) nat_cmp_total) (on_total (λ a. a.port) nat_cmp_total)

pub address_exact : IsAntisymmetric address_cmp
address_exact a b e = ap (λ (p : ℕ × ℕ). record { host = p.0; port = p.1 }) (exact_pairs nat_cmp nat_cmp nat_cmp-IsAntisymmetric nat_cmp-IsAntisymmetric (a.host, a.port) (b.host, b.port) e)

pub real_pid_total : IsTotalOrder real_pid_cmp
real_pid_total = then_total (on_total (λ a. a.node) nat_cmp_total) (on_total (λ a. a.pid) nat_cmp_total)

pub real_pid_exact : IsAntisymmetric real_pid_cmp
real_pid_exact a b e = ap (λ (p : ℕ × ℕ). record { node = p.0; pid = p.1 }) (exact_pairs nat_cmp nat_cmp nat_cmp-IsAntisymmetric nat_cmp-IsAntisymmetric (a.node, a.pid) (b.node, b.pid) e)

pub real_address_total : IsTotalOrder real_address_cmp
real_address_total = then_total (on_total (λ a. a.node) nat_cmp_total) (on_total (λ a. a.port) nat_cmp_total)

pub real_address_exact : IsAntisymmetric real_address_cmp
real_address_exact a b e = ap (λ (p : ℕ × ℕ). record { node = p.0; port = p.1 }) (exact_pairs nat_cmp nat_cmp nat_cmp-IsAntisymmetric nat_cmp-IsAntisymmetric (a.node, a.port) (b.node, b.port) e)

pub name_total : IsTotalOrder name_cmp
name_total = nat_list_cmp_total

pub name_exact : IsAntisymmetric name_cmp
name_exact = slice_cmp-IsAntisymmetric nat_cmp-IsAntisymmetric
