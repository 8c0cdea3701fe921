-- What the calls' functions return, in the words of the rows.
--     attempt_told k given attempt      what a row came to, where k is the kernel part after it and given the call's bytes
--     RowTold row k attempt             the same of a row that reads nothing
--     KeepsUnlessGives attempt old new  what gives nothing has left the kernel part as it was
--     answer_told k given answer        what an answer tells of the call, settled
use Rattle.std.specs.Prelude.{◌≡◌, ℕ, List, [], Option, Some, None, if◌then◌else◌}
use Rattle.plain_machine.specs.declared.kernel.PlainKernel.{PlainKernel}
use Rattle.plain_tables.specs.OfPlainProcess.Attempts.{Try, Fails, NotReady, Gives}
use Rattle.plain_machine.specs.Attempts.{Served}
use Rattle.plain_tables.specs.declared.answer.Answer.{Answer}
use Rattle.plain_tables.specs.declared.answer.Attempt.{Attempt}
use Rattle.plain_tables.specs.declared.answer.Attempt.TheVariants as of_code

abbrev pub served_by : PlainKernel → List ℕ → Answer → Served
served_by k given answer = record {
  kernel = k;
  reply = answer.reply;
  bytes = answer.bytes;
  console = if answer.is_shown then given else [];
}

abbrev pub attempt_told : PlainKernel → List ℕ → Attempt → Try Served
attempt_told k given (of_code.Gives answer) = Gives (served_by k given answer)
attempt_told k given (of_code.Fails e) = Fails e.0
attempt_told k given of_code.NotReady = NotReady

abbrev pub RowTold : Try Served → PlainKernel → Attempt → Type 0
RowTold row k attempt = (given : List ℕ) → row ≡ attempt_told k given attempt

abbrev pub KeepsUnlessGives : Attempt → PlainKernel → PlainKernel → Type 0
KeepsUnlessGives (of_code.Gives answer) old new = Unit {0}
KeepsUnlessGives (of_code.Fails e) old new = new ≡ old
KeepsUnlessGives of_code.NotReady old new = new ≡ old

abbrev pub answer_told : PlainKernel → List ℕ → Option Answer → Option Served
answer_told k given None = None
answer_told k given (Some answer) = Some (served_by k given answer)
