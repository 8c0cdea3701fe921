-- What a benchmark keeps of a kernel part, and the calls that it makes.
--     IsOwn k        it is whole, and each live process has its first thread
--     IsFirst k      besides, a system can be made for it: no bytes are on the way, and no datagram end is open
--     MayMake q      a call of the kernel, of words, that ends no thread alone
--     MayLend given  what a call may read: as many bytes as a transfer holds
use Rattle.std.specs.Prelude.{◌≡◌, ℕ, ◌≤◌, Bool, true, false, List, length, All}
use Rattle.call_table.specs.declared.request.Request.{Request}
use Rattle.call_table.specs.declared.request.Request.TheVariants.{Exit}
use Rattle.call_table.specs.Requests.{is_local}
use Rattle.sys_abi.specs.declared.identity.VPid.{VPid}
use Rattle.sys_abi.specs.declared.transfer.TheConstants.{TRANSFER_LIMIT}
use Rattle.plain_process.specs.Valid.{IsByte, IsRequest}
use Rattle.plain_machine.specs.declared.kernel.PlainKernel.{PlainKernel}
use Rattle.plain_machine.specs.Kernel.{is_live, has_thread}
use Rattle.plain_machine.specs.Kernels.{IsKernel}
use Rattle.rebuild_tables.specs.Rebuilt.{HasNoDatagrams}
use Rattle.rebuild_system.specs.Restarts.{AllArrived}

pub record IsOwn (k : PlainKernel) : Type 0 where
  pub whole : IsKernel k
  pub first : (p : VPid) → is_live k p ≡ true → has_thread k p p.0 ≡ true

pub record IsFirst (k : PlainKernel) : Type 0 where
  pub own : IsOwn k
  pub arrived : AllArrived k.directions
  pub plain : HasNoDatagrams k.descriptions

abbrev pub ends_thread : Request → Bool
ends_thread (Exit code) = true
ends_thread _ = false

pub record MayMake (q : Request) : Type 0 where
  pub words : IsRequest q
  pub kernels : is_local q ≡ false
  pub stays : ends_thread q ≡ false

pub record MayLend (given : List ℕ) : Type 0 where
  pub bytes : All IsByte given
  pub short : length given ≤ TRANSFER_LIMIT
