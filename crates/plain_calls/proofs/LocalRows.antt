-- The row of a call that its process answers alone, where the call was made.
use Rattle.std.proofs.Common.{◌≡◌, ℕ, List, sym, ap, subst, ◌∙◌}
use Rattle.std.specs.Prelude.{Some, Result, Ok, Err, IfOk}
use Rattle.std.specs.FinMap as map
use Rattle.call_table.specs.declared.request.Request.{Request}
use Rattle.sys_abi.specs.declared.reply.Errno.{Errno}
use Rattle.plain_process.specs.declared.user_part.UserPart.{UserPart}
use Rattle.plain_process.specs.declared.user_part.ThreadPart.{ThreadPart}
use Rattle.plain_memory.specs.declared.local_answer.LocalAnswer.{LocalAnswer}
use Rattle.plain_process.specs.Attempts.{Gives}
use Rattle.plain_process.specs.Buffers.{lent}
use Rattle.plain_process.specs.Local.{local_by, local_settled, local_lent, local_row}
use Rattle.plain_memory.specs.LocalAnswers.{DoesRow, answer_told}

module _ (user after new : UserPart) (t : ℕ) (q : Request) (thread : ThreadPart) (given : List ℕ) (answer : LocalAnswer) where
  settled : map.get user.threads t ≡ Some thread → lent user.memory q ≡ Some given → DoesRow user after (local_by user t thread q given) (Ok answer)
      → local_settled user t q (Gives (answer_told after answer)) ≡ local_row user t q
  unfolding local_row
  settled there lends does = ap (local_settled user t q) (sym does) ∙ sym (λ i. local_lent user t q (there i) (lends i))

  pub answered : {E : Type 0} (put : Result (Unit {0}) E) (attempt : Result LocalAnswer Errno) → map.get user.threads t ≡ Some thread → lent user.memory q ≡ Some given
      → ((other : ThreadPart) → map.get user.threads t ≡ Some other → DoesRow user after (local_by user t other q given) attempt) → attempt ≡ Ok answer
      → IfOk put (λ done. (before : UserPart) → new ≡ local_settled before t q (Gives (answer_told after answer))) → IfOk put (λ done. new ≡ local_row user t q)
  answered (Err e) attempt there lends made is put_is = tt
  answered (Ok done) attempt there lends made is put_is =
      put_is user ∙ settled there lends (subst (λ r. DoesRow user after (local_by user t thread q given) r) is (made thread there))
