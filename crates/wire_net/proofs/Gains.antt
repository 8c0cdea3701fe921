-- Work that is left to agents, summed up, and what is gained where bytes move.
--     gain moved              1 where they do
--     gain_or, sums           of each item, and of all
--     sum_of_each             the sum over changed items
--     cut_down                what is less by some bytes is less by a gain
--     both_zero               a weighted sum of two is 0 where both are
--     stream_length           how many bytes stand in a direction
--     again_is, has_moved, not_moved      what an answer tells
use Rattle.std.proofs.Common.{◌≡◌, ◌≢◌, ℕ, ◌==◌, ◌+◌, ◌*◌, ◌<◌, ◌≤◌, Bool, true, false, [], ◌∷◌, ◌++◌, length, refl, sym, ap, ◌∙◌, arith, length-append, inl, inr}
use Rattle.std.specs.Prelude.{All, ◌⊎◌, ◌&&◌, ◌||◌, map as each, if◌then◌else◌}
use Rattle.std.specs.List.{sum_by, list_any}
use Rattle.std.proofs.lemmas.Bool.Decides.{nat_tests}
use Rattle.std.proofs.lemmas.List.Elements.{All-head, All-tail}
use Rattle.std.proofs.lemmas.List.Sums.{sum_by-cons}
use Rattle.views.proofs.MapLaws.{true_false}
use Rattle.wire_net.specs.declared.agents.Stepped.TheVariants.{Moved, Finished, Again}
use Rattle.wire_net.specs.declared.cut_room.DirNotes.{DirNotes}
use Rattle.wire_channels.specs.Directions.{Direction}
use Rattle.wire_net.specs.Noted.{Notes, answer_of}
use Rattle.wire_net.specs.Whereabouts.{stream}

abbrev pub gain : Bool → ℕ
gain moved = if moved then 1 else 0

pub gain_or : (a b : Bool) → gain (a || b) ≤ gain a + gain b
gain_or true b = omega arith
gain_or false b = omega arith

pub sums : (f g : DirNotes → ℕ) (t : DirNotes → Bool) (notes : Notes) → All (λ x. f x + gain (t x) ≤ g x) notes → sum_by f notes + gain (list_any t notes) ≤ sum_by g notes
sums f g t [] all = omega arith
sums f g t (x ∷ notes) all =
    let here = All-head (λ y. f y + gain (t y) ≤ g y) x notes all in
    let rest = sums f g t notes (All-tail (λ y. f y + gain (t y) ≤ g y) x notes all) in
    let most = gain_or (t x) (list_any t notes) in
    added _ _ _ _ _ _ _ _ _ here rest most (sum_by-cons f x notes) (sum_by-cons g x notes)
  where
    added : (a b c d e h i s t : ℕ) → a + b ≤ c → d + e ≤ h → i ≤ b + e → s ≡ a + d → t ≡ c + h → s + i ≤ t
    added a b c d e h i s t one two three left right = omega arith

pub sum_of_each : (f : DirNotes → ℕ) (g : DirNotes → DirNotes) (notes : Notes) → sum_by f (each g notes) ≡ sum_by (λ x. f (g x)) notes
sum_of_each f g [] = refl
sum_of_each f g (x ∷ notes) = sum_by-cons f (g x) (each g notes) ∙ ap (λ (n : ℕ). f (g x) + n) (sum_of_each f g notes) ∙ sym (sum_by-cons (λ y. f (g y)) x notes)

pub cut_down : (a c k : ℕ) (b t : Bool) → a + (if b then k else 0) ≤ c → (b ≡ t) ⊎ (t ≡ false) → (t ≡ true → 0 < k) → a + gain t ≤ c
cut_down a c k true true less which some = let one = some refl in omega (arith, less, one)
cut_down a c k true false less which some = omega (arith, less)
cut_down a c k false true less (inl same) some = true_false (sym same)
cut_down a c k false true less (inr same) some = true_false same
cut_down a c k false false less which some = omega (arith, less)

pub both_zero : (a b : ℕ) → ((2 * a + b) == 0) ≡ ((a == 0) && (b == 0))
both_zero a b = choice (a == 0) (b == 0) refl refl
  where
    choice : (c d : Bool) → (a == 0) ≡ c → (b == 0) ≡ d → ((2 * a + b) == 0) ≡ (c && d)
    choice true true c d = grind (arith, nat_tests, c, d)
    choice true false c d = grind (arith, nat_tests, c, d)
    choice false true c d = grind (arith, nat_tests, c, d)
    choice false false c d = grind (arith, nat_tests, c, d)

pub stream_length : (direction : Direction) → length (stream direction) ≡ length direction.received + length direction.wire + length direction.sent
stream_length direction = length-append (direction.received ++ direction.wire) direction.sent ∙ ap (λ (k : ℕ). k + length direction.sent) (length-append direction.received direction.wire)

-- ---- answers of a step

moved_again : Moved ≡ Again → ⊥
moved_again e = cc

finished_again : Finished ≡ Again → ⊥
finished_again e = cc

finished_moved : Finished ≡ Moved → ⊥
finished_moved e = cc

again_moved : Again ≡ Moved → ⊥
again_moved e = cc

pub again_is : (work moved : Bool) → answer_of work moved ≡ Again → (work ≡ true) × (moved ≡ false)
again_is true true is = absurd (moved_again is)
again_is true false is = (refl, refl)
again_is false moved is = absurd (finished_again is)

pub has_moved : (work moved : Bool) → answer_of work moved ≡ Moved → moved ≡ true
has_moved true true is = refl
has_moved true false is = absurd (again_moved is)
has_moved false moved is = absurd (finished_moved is)

pub not_moved : (work moved : Bool) → answer_of work moved ≢ Moved → (work ≡ false) ⊎ (moved ≡ false)
not_moved true true is = absurd (is refl)
not_moved true false is = inr refl
not_moved false moved is = inl refl
