-- What a read and a write answer: how many bytes they gave or took.
-- Source: `man 2 read`, `man 2 write`.
--     gave k bytes                these bytes, and how many they are
--     broken_pipe k p t           EPIPE, and its signal is pending for the thread
use Rattle.std.specs.Prelude.{◌==◌, ◌||◌, ◌%◌, Bool, List, [], length}
use Rattle.plain_tables.specs.OfViews.Numbers.{ThreadNumber, Flags, Byte}
use Rattle.plain_tables.specs.OfSysAbi.declared.identity.VPid.{VPid}
use Rattle.plain_tables.specs.OfSysAbi.declared.errors.TheConstants.{EPIPE}
use Rattle.plain_tables.specs.OfSysAbi.declared.signals.TheConstants.{SIGPIPE}
use Rattle.plain_tables.specs.OfSysAbi.declared.reply.Reply.TheVariants.{Value}
use Rattle.plain_machine.specs.declared.kernel.PlainKernel.{PlainKernel}
use Rattle.plain_tables.specs.OfPlainProcess.Attempts.{Try, Gives}
use Rattle.plain_machine.specs.Attempts.{Served, refused}
use Rattle.plain_machine.specs.Kernel.{after_raise}

abbrev pub gave : PlainKernel → List Byte → Try Served
gave k bytes = Gives (record { kernel = k; reply = Value (length bytes); bytes = bytes; console = [] })

-- an error that has an effect
abbrev pub broken_pipe : PlainKernel → VPid → ThreadNumber → Try Served
broken_pipe k p t = Gives (refused (after_raise k p t SIGPIPE) EPIPE)

-- access modes: 0 reads, 1 writes, 2 both
abbrev pub may_read : Flags → Bool
may_read flags = (flags % 4 == 0) || (flags % 4 == 2)
