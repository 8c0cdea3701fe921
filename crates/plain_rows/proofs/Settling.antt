-- What a call's row comes to in code, settled, is what `serve` says.
--     serve_settles, waiting_keeps, short_answer      of the clauses of the code's `serve`
use Rattle.std.proofs.Common.{◌≡◌, ℕ, ◌≤◌, List, length, refl, sym, ap, ◌∙◌}
use Rattle.std.specs.Prelude.{Option, Some, None, IfSome}
use Rattle.sys_abi.specs.declared.identity.VPid.{VPid}
use Rattle.call_table.specs.declared.request.Request.{Request}
use Rattle.sys_abi.specs.declared.transfer.TheConstants.{TRANSFER_LIMIT}
use Rattle.plain_machine.specs.declared.kernel.PlainKernel.{PlainKernel}
use Rattle.plain_process.specs.Attempts.{Try}
use Rattle.plain_machine.specs.Attempts.{Served, refused, settled}
use Rattle.plain_machine.specs.Serve.{serve, row}
use Rattle.plain_machine.proofs.EachRow.{serve_is_short}
use Rattle.plain_tables.specs.declared.answer.Answer.{Answer}
use Rattle.plain_tables.specs.declared.answer.Attempt.{Attempt}
use Rattle.plain_tables.specs.declared.answer.Attempt.TheVariants.{Gives, Fails, NotReady}
use Rattle.plain_tables.specs.Settled.{settled_told}
use Rattle.plain_machine.specs.Answers.{served_by, answer_told, attempt_told, KeepsUnlessGives}

settles : (old new : PlainKernel) (given : List ℕ) (attempt : Attempt) → KeepsUnlessGives attempt old new
    → settled old (attempt_told new given attempt) ≡ answer_told new given (settled_told attempt)
settles old new given (Gives answer) kept = refl
settles old new given (Fails e) kept = ap (λ k. Some (refused k e.0)) (sym kept)
settles old new given NotReady kept = refl

pub serve_settles : (old new : PlainKernel) (p : VPid) (t : ℕ) (q : Request) (given : List ℕ) (attempt : Attempt)
    → row old p t q given ≡ attempt_told new given attempt
    → KeepsUnlessGives attempt old new → serve old p t q given ≡ answer_told new given (settled_told attempt)
unfolding serve
serve_settles old new p t q given attempt goes kept =
    ap (settled old) goes ∙ settles old new given attempt kept

-- it waits only where it has kept the kernel part
pub waiting_keeps : (old new : PlainKernel) (attempt : Attempt) → KeepsUnlessGives attempt old new → settled_told attempt ≡ None
    → new ≡ old
waiting_keeps old new (Gives answer) kept waits = cc
waiting_keeps old new (Fails e) kept waits = kept
waiting_keeps old new NotReady kept waits = kept

pub short_answer : (old new : PlainKernel) (p : VPid) (t : ℕ) (q : Request) (given : List ℕ) (answer : Option Answer)
    → serve old p t q given ≡ answer_told new given answer → IfSome answer (λ a. length a.bytes ≤ TRANSFER_LIMIT)
short_answer old new p t q given None goes = tt
short_answer old new p t q given (Some answer) goes = serve_is_short old p t q given (served_by new given answer) goes
