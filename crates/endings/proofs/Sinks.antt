-- What a sink took in several pieces.
use Rattle.std.proofs.Common.{◌≡◌, ℕ, ◌+◌, List, [], ◌++◌, length, take, append_assoc, Option, Some, None, Result, Ok, Err, OnErr, refl, sym, ap, ◌∙◌, arith, append-nil}
use Rattle.std.specs.Prelude.{min, OnOk}
use Rattle.std.proofs.Math.Seq.{take-append-add, take-length}
use Rattle.std.proofs.lemmas.List.{take-append-le, take_min}
use Rattle.edge_io.specs.Sink.{appended}
use Rattle.edge_io.specs.Sunk.{Sunk, sunk, Took, TookFront}

pub took_nothing : (taken : Option (List ℕ)) → Took (sunk taken taken) []
took_nothing None = refl
took_nothing (Some bytes) = ap (λ xs. Some xs) (sym (append-nil bytes))

-- a sink that took two pieces took both together
appended_twice : (taken : Option (List ℕ)) (xs ys : List ℕ) → appended (appended taken xs) ys ≡ appended taken (xs ++ ys)
appended_twice None xs ys = refl
appended_twice (Some front) xs ys = ap (λ bytes. Some bytes) (append_assoc front xs ys)

pub took_both : (had mid has : Option (List ℕ)) (xs ys : List ℕ) → Took (sunk had mid) xs → Took (sunk mid has) ys → Took (sunk had has) (xs ++ ys)
took_both had mid has xs ys first second = second ∙ ap (λ taken. appended taken ys) first ∙ appended_twice had xs ys

pub took_more : (had mid has : Option (List ℕ)) (xs ys : List ℕ) → Took (sunk had mid) xs → TookFront (sunk mid has) ys → TookFront (sunk had has) (xs ++ ys)
took_more had mid has xs ys first second =
    (length xs + second.0, took_both had mid has xs (take second.0 ys) first second.1 ∙ ap (appended had) (sym (take-append-add xs ys second.0)))

pub took_front : (sink : Sunk) (bytes : List ℕ) → Took sink bytes → TookFront sink bytes
took_front sink bytes took = (length bytes, took ∙ ap (appended sink.before) (sym (take-length bytes)))

-- a first part of a piece is one of the piece with more behind it
pub front_grows : (sink : Sunk) (xs ys : List ℕ) → TookFront sink xs → TookFront sink (xs ++ ys)
front_grows sink xs ys front =
    (min front.0 (length xs), front.1 ∙ ap (appended sink.before) (sym (take_min front.0 xs) ∙ sym (take-append-le (min front.0 (length xs)) xs ys (omega arith))))

pub OnErr-of_any : {A E : Type 0} (P : Type 0) (r : Result A E) → P → OnErr r P
OnErr-of_any P (Ok a) p = tt
OnErr-of_any P (Err e) p = p

pub OnErr-map : {A E P Q : Type 0} (r : Result A E) → (P → Q) → OnErr r P → OnErr r Q
OnErr-map (Ok a) f p = tt
OnErr-map (Err e) f p = f p

pub OnOk-map : {A E P Q : Type 0} (r : Result A E) → (P → Q) → OnOk r P → OnOk r Q
OnOk-map (Ok a) f p = f p
OnOk-map (Err e) f p = tt
