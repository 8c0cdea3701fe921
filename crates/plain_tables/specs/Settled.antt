-- The answer of a call's row, settled.
--     settled_told attempt      the answer: an error is one too, and there is none where the call waits
use Rattle.std.specs.Prelude.{false, [], Option, Some, None}
use Rattle.id_maps.specs.OfSysAbi.declared.reply.Reply.TheVariants.{Error}
use Rattle.plain_tables.specs.declared.answer.Answer.{Answer}
use Rattle.plain_tables.specs.declared.answer.Attempt.{Attempt}
use Rattle.plain_tables.specs.declared.answer.Attempt.TheVariants as of_code

abbrev pub settled_told : Attempt → Option Answer
settled_told (of_code.Gives answer) = Some answer
settled_told (of_code.Fails e) = Some (record { reply = Error e; bytes = []; is_shown = false })
settled_told of_code.NotReady = None
