-- What a row comes to, where it is known which case it is.
--     and_then_twice      tests in a row are tests in any grouping
--     answered            a row that answers a number
--     on_err              a fact that holds whatever is answered
use Rattle.std.proofs.Common.{◌≡◌, ℕ, List, None, Result, Ok, Err, OnErr, refl, sym, subst}
use Rattle.views.specs.Numbers.{Byte}
use Rattle.plain_process.specs.Attempts.{Try, Fails, NotReady, Gives, and_then}
use Rattle.plain_machine.specs.declared.kernel.PlainKernel.{PlainKernel}
use Rattle.plain_machine.specs.Attempts.{Served, replied}
use Rattle.host_descriptors.specs.OfHostTables.declared.kernel.Kernel.{Kernel}
use Rattle.host_descriptors.specs.OfHostTables.declared.attempt.Attempt.TheVariants as answer
use Rattle.host_descriptors.specs.OfHostTables.Serves.{Serves, ByNumber, same}
use Rattle.host_descriptors.specs.OfHostTables.Stands.{Given, Stands}

pub and_then_twice : {A B C : Type 0} (m : Try A) (f : A → Try B) (h : B → Try C)
    → and_then (and_then m f) h ≡ and_then m (λ a. and_then (f a) h)
unfolding and_then
and_then_twice (Fails e) f h = refl
and_then_twice NotReady f h = refl
and_then_twice (Gives a) f h = refl

pub answered : (g : Given) (real : Kernel) (x : List Byte) (k : PlainKernel) (n : ℕ) (m : Try Served)
    → m ≡ replied k n → (new : Kernel) → Stands g None new k
    → Serves ByNumber same g real new x x (answer.Gives n) m
answered g real x k n m is new stands =
    subst (Serves ByNumber same g real new x x (answer.Gives n)) (sym is)
    (record { reply = refl; bytes = refl; stands = stands })

pub on_err : {A E : Type 0} {P : Type 0} (r : Result A E) → P → OnErr r P
on_err (Ok a) h = tt
on_err (Err e) h = h
