-- What a guest is told of a real value.
--     virt_number virts node n          the virtual number of a real one
--     told_value virts who req n        the value with the guest's numbers
--     told_reply virts who req reply    the same of an answer
use Rattle.std.specs.Prelude.{◌==◌, ℕ, Option, Some, unwrap_or, if◌then◌else◌}
use Rattle.std.specs.FinMap as map
use Rattle.sys_abi.specs.declared.identity.RealPid.{RealPid}
use Rattle.plain_process.specs.declared.commands.FcntlCommand.{FcntlCommand}
use Rattle.plain_process.specs.declared.commands.FcntlCommand.TheVariants.{GetOwn}
use Rattle.plain_process.specs.Commands.{fcntl_command}
use Rattle.plain_tables.specs.Tables.{NOBODY}
use Rattle.host_tables.specs.declared.reply.KernelReply.{KernelReply}
use Rattle.host_tables.specs.declared.reply.KernelReply.TheVariants.{Done}
use Rattle.host_tables.specs.declared.request.RealRequest.{RealRequest}
use Rattle.host_tables.specs.declared.request.RealRequest.TheVariants.{Fcntl, Getpid, Getppid, Wait4}
use Rattle.host_tables.specs.Numbers.{Virts, real}

abbrev pub virt_number : Virts → ℕ → ℕ → ℕ
virt_number virts node n = unwrap_or (map.get virts (real node n)) 0

abbrev pub number_unless : ℕ → Virts → ℕ → ℕ → ℕ
number_unless none virts node n = if n == 0 then none else virt_number virts node n

abbrev pub told_owner : Virts → ℕ → Option FcntlCommand → ℕ → ℕ
told_owner virts node (Some GetOwn) n = number_unless 0 virts node n
told_owner virts node _ n = n

unfoldable pub told_value : Virts → RealPid → RealRequest → ℕ → ℕ
told_value virts who (Fcntl fd command argument target) n =
    told_owner virts who.node (fcntl_command command) n
told_value virts who Getpid n = virt_number virts who.node n
told_value virts who Getppid n = number_unless NOBODY virts who.node n
told_value virts who (Wait4 number options usage target) n = number_unless 0 virts who.node n
told_value virts who _ n = n

abbrev pub told_reply : Virts → RealPid → RealRequest → KernelReply → KernelReply
told_reply virts who req (Done n) = Done (told_value virts who req n)
told_reply virts who req reply = reply
