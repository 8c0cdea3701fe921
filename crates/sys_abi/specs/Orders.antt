-- The orders of the numbers that name processes and addresses, real or not, descriptors, descriptions,
-- channels and directions: by their parts in turn, as their derived comparisons have them. Beside each its
-- code, by which it may be the key of a finite map that is a model's value.
use Rattle.std.specs.declared.cmp.Ordering.{Ordering}
use Rattle.std.specs.Ordering.{nat_cmp, ordering_then}
use Rattle.std.specs.Coded.{Coded}
use Rattle.sys_abi.specs.declared.identity.VPid.{VPid}
use Rattle.sys_abi.specs.declared.identity.Slot.{Slot}
use Rattle.sys_abi.specs.declared.identity.DescId.{DescId}
use Rattle.sys_abi.specs.declared.identity.ConnId.{ConnId}
use Rattle.sys_abi.specs.declared.identity.Dir.{Dir}
use Rattle.sys_abi.specs.declared.identity.VirtAddr.{VirtAddr}
use Rattle.sys_abi.specs.declared.identity.RealPid.{RealPid}
use Rattle.sys_abi.specs.declared.identity.RealAddr.{RealAddr}
use Rattle.sys_abi.specs.contracts.identity.VPid as vpid
use Rattle.sys_abi.specs.contracts.identity.Slot as slot
use Rattle.sys_abi.specs.contracts.identity.DescId as desc
use Rattle.sys_abi.specs.contracts.identity.ConnId as conn
use Rattle.sys_abi.specs.contracts.identity.Dir as dir
use Rattle.sys_abi.specs.contracts.identity.VirtAddr as address
use Rattle.sys_abi.specs.contracts.identity.RealPid as real_pid
use Rattle.sys_abi.specs.contracts.identity.RealAddr as real_address

abbrev pub vpid_cmp : VPid → VPid → Ordering
vpid_cmp a b = nat_cmp a.0 b.0

abbrev pub slot_cmp : Slot → Slot → Ordering
slot_cmp a b = ordering_then (nat_cmp a.pid.0 b.pid.0) (nat_cmp a.fd b.fd)

abbrev pub desc_cmp : DescId → DescId → Ordering
desc_cmp a b = ordering_then (nat_cmp a.pid.0 b.pid.0) (nat_cmp a.num b.num)

abbrev pub conn_cmp : ConnId → ConnId → Ordering
conn_cmp a b = ordering_then (nat_cmp a.pid.0 b.pid.0) (nat_cmp a.num b.num)

abbrev pub dir_cmp : Dir → Dir → Ordering
dir_cmp a b = ordering_then (conn_cmp a.conn b.conn) (nat_cmp a.side b.side)

abbrev pub address_cmp : VirtAddr → VirtAddr → Ordering
address_cmp a b = ordering_then (nat_cmp a.host b.host) (nat_cmp a.port b.port)

abbrev pub real_pid_cmp : RealPid → RealPid → Ordering
real_pid_cmp a b = ordering_then (nat_cmp a.node b.node) (nat_cmp a.pid b.pid)

abbrev pub real_address_cmp : RealAddr → RealAddr → Ordering
real_address_cmp a b = ordering_then (nat_cmp a.node b.node) (nat_cmp a.port b.port)

abbrev pub coded_vpid : Coded VPid
coded_vpid = vpid.the_row.coded

abbrev pub coded_slot : Coded Slot
coded_slot = slot.the_row.coded

abbrev pub coded_desc : Coded DescId
coded_desc = desc.the_row.coded

abbrev pub coded_conn : Coded ConnId
coded_conn = conn.the_row.coded

abbrev pub coded_dir : Coded Dir
coded_dir = dir.the_row.coded

abbrev pub coded_address : Coded VirtAddr
coded_address = address.the_row.coded

abbrev pub coded_real_pid : Coded RealPid
coded_real_pid = real_pid.the_row.coded

abbrev pub coded_real_address : Coded RealAddr
coded_real_address = real_address.the_row.coded
