-- What a row over real numbers answers.
--     reply_of answered          as the kernel's answer
--     Answered Does Stays r      by cases on the answer: what an attempt does, and what want of memory leaves
use Rattle.std.specs.Prelude.{Result, Ok, Err}
use Rattle.host_tables.specs.declared.attempt.Attempt.{Attempt}
use Rattle.host_tables.specs.declared.attempt.Attempt.TheVariants as answer
use Rattle.host_tables.specs.declared.reply.KernelReply.{KernelReply}
use Rattle.host_tables.specs.declared.reply.KernelReply.TheVariants.{Done, Error, Memory}
use Rattle.host_tables.specs.declared.reply.KernelReply.TheVariants as reply

abbrev pub reply_of : {E : Type 0} → Result Attempt E → KernelReply
reply_of (Ok (answer.Gives n)) = Done n
reply_of (Ok (answer.Fails e)) = Error e
reply_of (Ok answer.NotReady) = reply.NotReady
reply_of (Err e) = Memory

abbrev pub Answered : (Attempt → Type 0) → Type 0 → KernelReply → Type 0
Answered Does Stays (Done n) = Does (answer.Gives n)
Answered Does Stays (Error e) = Does (answer.Fails e)
Answered Does Stays reply.NotReady = Does answer.NotReady
Answered Does Stays Memory = Stays
