-- A process's own number.
use Rattle.std.proofs.Common.{◌≡◌, ℕ, true, List, refl, sym}
use Rattle.views.specs.Numbers.{Byte}
use Rattle.views.proofs.MapLaws.{true_false}
use Rattle.sys_abi.specs.declared.identity.VPid.{VPid}
use Rattle.call_table.specs.declared.request.Request.{Request}
use Rattle.call_table.specs.declared.request.Request.TheVariants.{Getpid}
use Rattle.plain_machine.specs.declared.kernel.PlainKernel.{PlainKernel}
use Rattle.plain_machine.specs.Rows.Numbers.{getpid_row}
use Rattle.plain_machine.specs.Serve.{row}
use Rattle.host_tables.specs.declared.reply.KernelReply.TheVariants.{Done}
use Rattle.host_tables.specs.declared.system.System.{System}
use Rattle.wrap_names.specs.Wrapping.{IsWrapped, StandsAfter}
use Rattle.wrap_passing.specs.Asking.{is_own_number}

pub own_number_told : (s : System) (next_id : ℕ) (k : PlainKernel) → IsWrapped s next_id k → (p : VPid) (t : ℕ)
    (r : Request) (given : List Byte) → is_own_number r ≡ true
    → StandsAfter s next_id k given given (Done p.0) (row k p t r given)
unfolding is_own_number row getpid_row
own_number_told s next_id k w p t Getpid given own = (w, (refl, refl))
own_number_told s next_id k w p t _ given own = true_false (sym own)
