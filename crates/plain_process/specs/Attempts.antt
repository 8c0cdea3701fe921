-- A call's row: tests in order, each of which may refuse with an error number, then the effect; or the call
-- isn't ready.
--     need, refuse_if, found      a test that refuses
use Rattle.std.specs.Prelude.{ℕ, Bool, true, false, Option, Some, None}

pub data Try (A : Type 0) : Type 0 where
  Fails : ℕ → Try A
  NotReady : Try A
  Gives : A → Try A

unfoldable pub and_then : {A B : Type 0} → Try A → (A → Try B) → Try B
and_then (Fails e) f = Fails e
and_then NotReady f = NotReady
and_then (Gives a) f = f a

infixl 10 ◌>>=◌ ◌>>◌
abbrev pub ◌>>=◌ : {A B : Type 0} → Try A → (A → Try B) → Try B
◌>>=◌ m f = and_then m f

abbrev pub ◌>>◌ : {A B : Type 0} → Try A → Try B → Try B
◌>>◌ m n = and_then m (λ _. n)

-- the test holds, else the error
unfoldable pub need : Bool → ℕ → Try (Unit {0})
need true e = Gives tt
need false e = Fails e

unfoldable pub refuse_if : Bool → ℕ → Try (Unit {0})
refuse_if true e = Fails e
refuse_if false e = Gives tt

-- what a look-up found, else the error
unfoldable pub found : {A : Type 0} → Option A → ℕ → Try A
found None e = Fails e
found (Some a) e = Gives a
