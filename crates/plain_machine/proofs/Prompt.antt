-- Attempts that never wait: of rows that are always ready.
--     is_prompt      it gives or fails      prompt_then, prompt_need, prompt_refuse, prompt_found      through the tests of a row      settles      of a whole row
use Rattle.std.proofs.Common.{◌≡◌, ℕ, Bool, true, false, refl, sym}
use Rattle.std.specs.Prelude.{Option, Some, None}
use Rattle.plain_machine.specs.declared.kernel.PlainKernel.{PlainKernel}
use Rattle.plain_tables.specs.OfPlainProcess.Attempts.{Try, Fails, NotReady, Gives, and_then, need, refuse_if, found}
use Rattle.plain_machine.specs.Attempts.{Served}
use Rattle.plain_tables.proofs.OfViews.MapLaws.{true_false}
use Rattle.plain_machine.proofs.RowBounds.{Settles}

abbrev pub is_prompt : {A : Type 0} → Try A → Bool
is_prompt (Fails e) = true
is_prompt NotReady = false
is_prompt (Gives a) = true

pub prompt_then : {A B : Type 0} (attempt : Try A) (f : A → Try B) → is_prompt attempt ≡ true → ((a : A) → is_prompt (f a) ≡ true) → is_prompt (and_then attempt f) ≡ true
unfolding and_then
prompt_then (Fails e) f is then = refl
prompt_then NotReady f is then = is
prompt_then (Gives a) f is then = then a

pub prompt_need : (b : Bool) (e : ℕ) → is_prompt (need b e) ≡ true
unfolding need
prompt_need true e = refl
prompt_need false e = refl

pub prompt_refuse : (b : Bool) (e : ℕ) → is_prompt (refuse_if b e) ≡ true
unfolding refuse_if
prompt_refuse true e = refl
prompt_refuse false e = refl

pub prompt_found : {A : Type 0} (there : Option A) (e : ℕ) → is_prompt (found there e) ≡ true
unfolding found
prompt_found None e = refl
prompt_found (Some a) e = refl

pub settles : (k : PlainKernel) (attempt : Try Served) → is_prompt attempt ≡ true → Settles k attempt
settles k (Fails e) is = refl
settles k NotReady is = true_false (sym is)
settles k (Gives served) is = refl
