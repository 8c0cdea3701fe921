-- The calls that close a descriptor.
--     is_closing q                       close and dup3
--     ServesRow old new who reply m      by every kernel part for which the system stood: it stands for the
--                                        one that the row leaves, and the answer is the row's
use Rattle.std.specs.Prelude.{◌≡◌, ℕ, Bool, true, false, List, Some}
use Rattle.std.specs.FinMap as map
use Rattle.views.specs.Numbers.{Byte}
use Rattle.sys_abi.specs.declared.identity.VPid.{VPid}
use Rattle.sys_abi.specs.declared.identity.RealPid.{RealPid}
use Rattle.call_table.specs.declared.request.Request.{Request}
use Rattle.call_table.specs.declared.request.Request.TheVariants.{Close, Dup3}
use Rattle.plain_process.specs.Attempts.{Try}
use Rattle.plain_machine.specs.declared.kernel.PlainKernel.{PlainKernel}
use Rattle.plain_machine.specs.Attempts.{Served}
use Rattle.plain_machine.specs.Kernels.{IsKernel}
use Rattle.host_tables.specs.declared.reply.KernelReply.{KernelReply}
use Rattle.host_tables.specs.declared.system.System.{System}
use Rattle.wrap_names.specs.Wrapping.{IsWrapped, StandsAfter, kernel_left}

unfoldable pub is_closing : Request → Bool
is_closing (Close fd) = true
is_closing (Dup3 fd to flags) = true
is_closing _ = false

abbrev pub ServesRow : System → System → RealPid → KernelReply → (PlainKernel → VPid → Try Served) → Type 0
ServesRow old new who reply m =
    (k : PlainKernel) (next_id : ℕ) (p : VPid) (x : List Byte) → IsWrapped old next_id k
    → map.get old.ids.pids p.0 ≡ Some who → IsKernel (kernel_left k (m k p))
    → StandsAfter new next_id k x x reply (m k p)
