-- What is true of the value of an option, where it has one: through tests and look-ups, one after the other.
--     gives, nothing       of a value, of none      where_, either      through a test, with and without another way      then_      through a look-up
use Rattle.std.proofs.Common.{◌≡◌, Bool, true, false, cond, refl, subst}
use Rattle.std.specs.Prelude.{Option, Some, None, option_and_then}
use Rattle.std.specs.Option.{option_map}

pub record Giving {A : Type 0} (found : Option A) (P : A → Type 0) : Type 0 where
  pub each : (a : A) → found ≡ Some a → P a

pub gives : {A : Type 0} {P : A → Type 0} (a : A) → P a → Giving (Some a) P
gives {P = P} a holds = record { each = λ b is. let same : a ≡ b = cc in subst P same holds }

pub nothing : {A : Type 0} {P : A → Type 0} → Giving None P
nothing = record { each = λ b is. cc }

pub where_ : {A : Type 0} {P : A → Type 0} (b : Bool) {found : Option A} → (b ≡ true → Giving found P) → Giving (cond b found None) P
where_ true holds = holds refl
where_ false holds = nothing

pub either : {A : Type 0} {P : A → Type 0} (b : Bool) {found other : Option A} → (b ≡ true → Giving found P) → (b ≡ false → Giving other P) → Giving (cond b found other) P
either true first second = first refl
either false first second = second refl

pub then_ : {A B : Type 0} {P : B → Type 0} (found : Option A) {f : A → Option B} → ((a : A) → found ≡ Some a → Giving (f a) P) → Giving (option_and_then f found) P
then_ None holds = nothing
then_ (Some a) holds = holds a refl

pub mapped : {A B : Type 0} {P : B → Type 0} {found : Option A} (f : A → B) → Giving found (λ a. P (f a)) → Giving (option_map f found) P
mapped {found = None} f holds = nothing
mapped {found = Some a} f holds = gives (f a) (holds.each a refl)
