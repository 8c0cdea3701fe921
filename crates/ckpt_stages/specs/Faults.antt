-- Why a system is not suspended.
-- Source: `man 2 socketpair`, `man 2 eventfd`: what no image holds is this project's own rule.
--     FindsUnsupported k found      the first descriptor, by process and number, of a kind that no image
--                                   holds
--     IsFault k fault               that one is refused; want of memory comes where there is none
use Rattle.std.specs.Prelude.{◌≡◌, Option, Some, None, option_map}
use Rattle.sys_abi.specs.declared.identity.VPid.{VPid}
use Rattle.sys_abi.specs.declared.identity.Fd.{Fd}
use Rattle.sys_abi.specs.declared.record.Kind.{Kind}
use Rattle.plain_machine.specs.declared.kernel.PlainKernel.{PlainKernel}
use Rattle.plain_machine.specs.declared.plain.Plain.{Plain}
use Rattle.plain_machine.specs.Tests.{UnsupportedAt, unsupported}
use Rattle.plain_tables.specs.Tables.{slot}
use Rattle.ckpt_stages.specs.declared.fault.StageFault.{StageFault}
use Rattle.ckpt_stages.specs.declared.fault.StageFault.TheVariants.{Unsupported, Memory}

abbrev pub Found : Type 0
Found = VPid × Fd × Kind

abbrev pub unsupported_at : Found → UnsupportedAt
unsupported_at found = record { slot = slot found.0 found.1.0; kind = found.2 }

abbrev pub FindsUnsupported : PlainKernel → Option Found → Type 0
FindsUnsupported k found = (g : Plain) → g.kernel ≡ k → unsupported g ≡ option_map unsupported_at found

abbrev pub IsFault : PlainKernel → StageFault → Type 0
IsFault k (Unsupported p fd kind) = FindsUnsupported k (Some (p, fd, kind))
IsFault k Memory = FindsUnsupported k None
