-- What a call's row comes to.
--     Served           what a call that was served leaves and gives
--     settled k m      what the row says of the kernel part k: an error leaves it as it is, and nothing where
--                      the call waits
use Rattle.std.specs.Prelude.{ℕ, List, [], Option, Some, None}
use Rattle.plain_tables.specs.OfViews.Numbers.{Byte}
use Rattle.plain_tables.specs.OfSysAbi.declared.reply.Reply.{Reply}
use Rattle.plain_tables.specs.OfSysAbi.declared.reply.Reply.TheVariants.{Value, Error}
use Rattle.plain_machine.specs.declared.kernel.PlainKernel.{PlainKernel}
use Rattle.plain_tables.specs.OfPlainProcess.Attempts.{Try, Fails, NotReady, Gives}

-- the kernel part after a call, its answer, the bytes for the guest, and those for the console
pub record Served : Type 0 where
  pub kernel : PlainKernel
  pub reply : Reply
  pub bytes : List Byte
  pub console : List Byte

abbrev pub replied : PlainKernel → ℕ → Try Served
replied k value = Gives (record { kernel = k; reply = Value value; bytes = []; console = [] })

abbrev pub replied_on_console : PlainKernel → ℕ → List Byte → Try Served
replied_on_console k value console =
    Gives (record { kernel = k; reply = Value value; bytes = []; console = console })

abbrev pub refused : PlainKernel → ℕ → Served
refused k e = record { kernel = k; reply = Error (record { 0 = e }); bytes = []; console = [] }

abbrev pub settled : PlainKernel → Try Served → Option Served
settled k (Fails e) = Some (refused k e)
settled k NotReady = None
settled k (Gives served) = Some served
