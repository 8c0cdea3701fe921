-- What is true of the value of an attempt, where it gives one: through the tests of a row, one after the other.
--     succeeds, fails      of a value, of an error      after      through a test that may refuse
use Rattle.std.proofs.Common.{◌≡◌, ℕ, refl, subst}
use Rattle.plain_tables.specs.OfPlainProcess.Attempts.{Try, Fails, NotReady, Gives, and_then}

pub record Trying {A : Type 0} (attempt : Try A) (P : A → Type 0) : Type 0 where
  pub each : (a : A) → attempt ≡ Gives a → P a

pub succeeds : {A : Type 0} {P : A → Type 0} (a : A) → P a → Trying (Gives a) P
succeeds {P = P} a holds = record { each = λ b is. let same : a ≡ b = cc in subst P same holds }

pub fails : {A : Type 0} {P : A → Type 0} (e : ℕ) → Trying (Fails e) P
fails e = record { each = λ a is. cc }

pub after : {A B : Type 0} {P : B → Type 0} (attempt : Try A) {f : A → Try B} → ((a : A) → attempt ≡ Gives a → Trying (f a) P) → Trying (and_then attempt f) P
unfolding and_then
after (Fails e) holds = fails e
after NotReady holds = record { each = λ a is. cc }
after (Gives a) holds = holds a refl
