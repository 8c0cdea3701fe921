-- Two attempts that go alike: a plain row's, and the same tests over real numbers.
--     SameTry Is m n                both fail with one error, both wait, or both give what Is holds of
--     same_then, same_skip          through one test;  a plain test that passes
--     same_need, same_found, same_unready      a test;  a look-up;  what isn't ready
--     as_fails, as_waits, as_gives  what the second tells of the first
use Rattle.std.proofs.Common.{◌≡◌, ℕ, Bool, true, false, Option, Some, None, refl, sym, ap, subst}
use Rattle.std.specs.Prelude.{IsSome, if◌then◌else◌}
use Rattle.views.specs.Seen.{Agree}
use Rattle.views.proofs.MapLaws.{true_false}
use Rattle.sys_abi.specs.declared.errors.TheConstants.{EAGAIN}
use Rattle.sys_abi.specs.declared.flags.TheConstants.{O_NONBLOCK}
use Rattle.sys_abi.specs.Flags.{has_flag}
use Rattle.plain_process.specs.Attempts.{Try, Fails, NotReady, Gives, and_then, need, found}
use Rattle.plain_machine.specs.SocketWords.{is_settled, unready}

abbrev pub Alike : {A B : Type 0} → (A → B → Type 0) → Try A → Try B → Type 0
Alike Is (Fails e) (Fails f) = e ≡ f
Alike Is NotReady NotReady = Unit {0}
Alike Is (Gives x) (Gives y) = Is x y
Alike Is _ _ = ⊥

pub record SameTry {A B : Type 0} (Is : A → B → Type 0) (m : Try A) (n : Try B) : Type 0 where
  pub alike : Alike Is m n

through : {A B C D : Type 0} (Is : A → B → Type 0) (Js : C → D → Type 0) (m : Try A) (n : Try B)
    (f : A → Try C) (h : B → Try D) → Alike Is m n → ((x : A) (y : B) → Is x y → Alike Js (f x) (h y))
    → Alike Js (and_then m f) (and_then n h)
unfolding and_then
through Is Js (Fails e) (Fails e') f h same next = same
through Is Js (Fails e) NotReady f h same next = absurd same
through Is Js (Fails e) (Gives y) f h same next = absurd same
through Is Js NotReady (Fails e) f h same next = absurd same
through Is Js NotReady NotReady f h same next = tt
through Is Js NotReady (Gives y) f h same next = absurd same
through Is Js (Gives x) (Fails e) f h same next = absurd same
through Is Js (Gives x) NotReady f h same next = absurd same
through Is Js (Gives x) (Gives y) f h same next = next x y same

pub same_then : {A B C D : Type 0} {Is : A → B → Type 0} {Js : C → D → Type 0} {m : Try A} {n : Try B}
    {f : A → Try C} {h : B → Try D} → SameTry Is m n → ((x : A) (y : B) → Is x y → SameTry Js (f x) (h y))
    → SameTry Js (and_then m f) (and_then n h)
same_then {Is = Is} {Js = Js} {m = m} {n = n} {f = f} {h = h} same next =
    record { alike = through Is Js m n f h same.alike (λ x y is. (next x y is).alike) }

-- one that gives what it should
pub same_gives : {A B : Type 0} {Is : A → B → Type 0} (x : A) (y : B) → Is x y → SameTry Is (Gives x)
    (Gives y)
same_gives x y is = record { alike = is }

-- a plain look-up that finds something
skipped : {A C D : Type 0} (Js : C → D → Type 0) (o : Option A) (e : ℕ) (f : A → Try C) (n : Try D)
    → IsSome o → ((x : A) → o ≡ Some x → Alike Js (f x) n) → Alike Js (and_then (found o e) f) n
unfolding and_then found
skipped Js None e f n some next = true_false (sym some)
skipped Js (Some x) e f n some next = next x refl

pub same_skip : {A C D : Type 0} {Js : C → D → Type 0} {f : A → Try C} {n : Try D} (o : Option A) (e : ℕ)
    → IsSome o → ((x : A) → o ≡ Some x → SameTry Js (f x) n) → SameTry Js (and_then (found o e) f) n
same_skip {Js = Js} {f = f} {n = n} o e some next =
    record { alike = skipped Js o e f n some (λ x is. (next x is).alike) }

-- tests

abbrev pub Passed : Unit {0} → Unit {0} → Type 0
Passed x y = Unit {0}

need_itself : (a : Bool) (e : ℕ) → SameTry Passed (need a e) (need a e)
unfolding need
need_itself true e = record { alike = tt }
need_itself false e = record { alike = refl }

pub same_need : {a b : Bool} (e : ℕ) → a ≡ b → SameTry Passed (need a e) (need b e)
same_need {a = a} e is = subst (λ c. SameTry Passed (need a e) (need c e)) is (need_itself a e)

-- look-ups

pub same_found : {A B : Type 0} {Is : A → B → Type 0} (o : Option A) (q : Option B) (e : ℕ) → Agree Is o q
    → SameTry Is (found o e) (found q e)
unfolding found
same_found None None e h = record { alike = refl }
same_found None (Some y) e h = record { alike = h }
same_found (Some x) None e h = record { alike = h }
same_found (Some x) (Some y) e h = record { alike = h }

-- what isn't ready
pub same_unready : {A B : Type 0} {Is : A → B → Type 0} {a b : ℕ} → a ≡ b
    → SameTry Is (unready {A = A} a) (unready {A = B} b)
same_unready {A = A} {B = B} {Is = Is} {a = a} is =
    subst (λ c. SameTry Is (unready {A = A} a) (unready {A = B} c)) is (either (has_flag a O_NONBLOCK))
  where
    either : (c : Bool) → SameTry Is (if c then Fails EAGAIN else NotReady)
        (if c then Fails EAGAIN else NotReady)
    either true = record { alike = refl }
    either false = record { alike = tt }

-- what the second tells of the first

pub as_fails : {A B : Type 0} (Is : A → B → Type 0) (m : Try A) (n : Try B) (e : ℕ) → SameTry Is m n
    → n ≡ Fails e → m ≡ Fails e
as_fails {A = A} {B = B} Is m n e same is = by_alike m (subst (λ w. Alike Is m w) is same.alike)
  where
    by_alike : (w : Try A) → Alike Is w (Fails e) → w ≡ Fails e
    by_alike (Fails f) h = ap Fails h
    by_alike NotReady h = absurd h
    by_alike (Gives x) h = absurd h

pub as_waits : {A B : Type 0} (Is : A → B → Type 0) (m : Try A) (n : Try B) → SameTry Is m n
    → n ≡ NotReady → m ≡ NotReady
as_waits {A = A} {B = B} Is m n same is = by_alike m (subst (λ w. Alike Is m w) is same.alike)
  where
    by_alike : (w : Try A) → Alike Is w NotReady → w ≡ NotReady
    by_alike (Fails f) h = absurd h
    by_alike NotReady h = refl
    by_alike (Gives x) h = absurd h

pub as_gives : {A B : Type 0} (Is : A → B → Type 0) (m : Try A) (n : Try B) (y : B) → SameTry Is m n
    → n ≡ Gives y → (x : A) × ((m ≡ Gives x) × Is x y)
as_gives {A = A} {B = B} Is m n y same is = by_alike m (subst (λ w. Alike Is m w) is same.alike)
  where
    by_alike : (w : Try A) → Alike Is w (Gives y) → (x : A) × ((w ≡ Gives x) × Is x y)
    by_alike (Fails f) h = absurd h
    by_alike NotReady h = absurd h
    by_alike (Gives x) h = (x, (refl, h))

pub as_settled : {A B : Type 0} (Is : A → B → Type 0) (m : Try A) (n : Try B) → SameTry Is m n
    → is_settled m ≡ is_settled n
as_settled {A = A} {B = B} Is m n same = by_alike m n same.alike
  where
    by_alike : (m : Try A) (n : Try B) → Alike Is m n → is_settled m ≡ is_settled n
    by_alike (Fails e) (Fails f) h = refl
    by_alike (Fails e) NotReady h = absurd h
    by_alike (Fails e) (Gives y) h = absurd h
    by_alike NotReady (Fails f) h = absurd h
    by_alike NotReady NotReady h = refl
    by_alike NotReady (Gives y) h = absurd h
    by_alike (Gives x) (Fails f) h = absurd h
    by_alike (Gives x) NotReady h = absurd h
    by_alike (Gives x) (Gives y) h = refl
