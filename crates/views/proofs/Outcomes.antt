-- What is known of an answer, once it is known which one it is.
--     on_some                       the fact on what was found
--     on_ok_then, on_err_then       a fact that follows from the one on the answer
use Rattle.std.proofs.Common.{◌≡◌, subst}
use Rattle.std.specs.Prelude.{Option, Some, Result, Ok, Err, OnOk, OnErr, OnSome}

pub on_some : {A : Type 0} {r : Option A} {a : A} {P : Type 0} → r ≡ Some a → OnSome r P → P
on_some {P = P} is h = subst (λ o. OnSome o P) is h

pub on_ok_then : {A E : Type 0} {P Q : Type 0} (r : Result A E) → OnOk r P → (P → Q) → OnOk r Q
on_ok_then (Ok a) h f = f h
on_ok_then (Err e) h f = tt

pub on_err_then : {A E : Type 0} {P Q : Type 0} (r : Result A E) → OnErr r P → (P → Q) → OnErr r Q
on_err_then (Ok a) h f = tt
on_err_then (Err e) h f = f h
