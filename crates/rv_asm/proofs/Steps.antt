-- One line after another: what the loops over a text's lines keep.
use Rattle.std.proofs.Common.{◌≡◌, ℕ, ◌+◌, ◌<◌, ◌≤◌, zero, suc, Bool, true, below_more, List, [], ◌∷◌, ◌++◌, length, get_or, Option, refl, sym, ap, subst, ◌∙◌, arith}
use Rattle.std.specs.Prelude.{option_map, is_some, unwrap_or}
use Rattle.std.proofs.lemmas.List.{length-map}
use Rattle.asm_lines.specs.declared.statement.Statement.{Statement}
use Rattle.asm_lines.specs.Statements.{meant, Statement as Said}
use Rattle.rv_asm.specs.Labels.{lines_in, Puts, IsBody}
use Rattle.rv_asm.specs.Layout.{Label, line_at, placed_after, place_of, end_of, labels_before, labels_at, labels_of}
use Rattle.rv_asm.specs.Pieces.{piece, piece_of}
use Rattle.rv_asm.specs.Files.{AreGood, body_before}
use Rattle.rv_asm.proofs.Sizes.{sized}

abbrev Read : Type 0
Read = List (Option Statement)

line_is : (lines : Read) (n : ℕ) (d : Option Statement) → n < length lines → line_at (lines_in lines) n ≡ option_map meant (get_or lines n d)
line_is [] n d inside = absurd (omega arith)
line_is (x ∷ rest) zero d inside = refl
line_is (x ∷ rest) (suc n) d inside = line_is rest n d (omega arith)

add_one : (n : ℕ) → n + 1 ≡ suc n
add_one n = omega arith

pub place_step : (lines : Read) (n : ℕ) (d : Option Statement) (place next : ℕ) → n < length lines → place ≡ place_of (lines_in lines) n
    → next ≡ placed_after place (option_map meant (get_or lines n d)) → next ≡ place_of (lines_in lines) (n + 1)
unfolding place_of
place_step lines n d place next inside at is =
    is ∙ ap (λ p. placed_after p (option_map meant (get_or lines n d))) at
    ∙ ap (λ (k : Option Said). placed_after (place_of (lines_in lines) n) k) (sym (line_is lines n d inside))
    ∙ ap (place_of (lines_in lines)) (sym (add_one n))

pub labels_step : (lines : Read) (n : ℕ) (d : Option Statement) (place : ℕ) (old new : List Label) → n < length lines → place ≡ place_of (lines_in lines) n
    → old ≡ labels_before (lines_in lines) n → new ≡ old ++ labels_at place n (option_map meant (get_or lines n d)) → new ≡ labels_before (lines_in lines) (n + 1)
unfolding labels_before
labels_step lines n d place old new inside at before is =
    is ∙ ap (λ (ls : List Label). ls ++ labels_at place n (option_map meant (get_or lines n d))) before
    ∙ ap (λ p. labels_before (lines_in lines) n ++ labels_at p n (option_map meant (get_or lines n d))) at
    ∙ ap (λ (k : Option Said). labels_before (lines_in lines) n ++ labels_at (place_of (lines_in lines) n) n k) (sym (line_is lines n d inside))
    ∙ ap (labels_before (lines_in lines)) (sym (add_one n))

-- the layout is that of these lines
pub record IsLayout (lines : Read) (labels : List Label) (end : ℕ) : Type 0 where
  pub found : labels ≡ labels_of (lines_in lines)
  pub ends : end ≡ end_of (lines_in lines)

piece_is : (lines : Read) (n : ℕ) (d : Option Statement) (labels : List Label) (end place : ℕ) → n < length lines → place ≡ place_of (lines_in lines) n → IsLayout lines labels end
    → piece labels end n place (option_map meant (get_or lines n d)) ≡ piece_of (lines_in lines) n
piece_is lines n d labels end place inside at is =
    ap (λ (ls : List Label). piece ls end n place (option_map meant (get_or lines n d))) is.found
    ∙ ap (λ e. piece (labels_of (lines_in lines)) e n place (option_map meant (get_or lines n d))) is.ends
    ∙ ap (λ p. piece (labels_of (lines_in lines)) (end_of (lines_in lines)) n p (option_map meant (get_or lines n d))) at
    ∙ ap (λ (k : Option Said). piece (labels_of (lines_in lines)) (end_of (lines_in lines)) n (place_of (lines_in lines) n) k) (sym (line_is lines n d inside))

pub body_step : (lines : Read) (n : ℕ) (d : Option Statement) (labels : List Label) (end place : ℕ) (good : Bool) (old new : List ℕ) → n < length lines → place ≡ place_of (lines_in lines) n
    → IsLayout lines labels end → old ≡ body_before (lines_in lines) n → Puts good old new (piece labels end n place (option_map meant (get_or lines n d))) → new ≡ body_before (lines_in lines) (n + 1)
unfolding body_before
body_step lines n d labels end place good old new inside at is before puts =
    puts.put ∙ ap (λ (bs : List ℕ). bs ++ unwrap_or (piece labels end n place (option_map meant (get_or lines n d))) []) before
    ∙ ap (λ (o : Option (List ℕ)). body_before (lines_in lines) n ++ unwrap_or o []) (piece_is lines n d labels end place inside at is)
    ∙ ap (body_before (lines_in lines)) (sym (add_one n))

told : (lines : Read) (n : ℕ) (d : Option Statement) (labels : List Label) (end place : ℕ) (good : Bool) (old new : List ℕ) → n < length lines → place ≡ place_of (lines_in lines) n
    → IsLayout lines labels end → Puts good old new (piece labels end n place (option_map meant (get_or lines n d))) → good ≡ is_some (piece_of (lines_in lines) n)
told lines n d labels end place good old new inside at is puts =
    puts.told ∙ ap (λ (o : Option (List ℕ)). is_some o) (piece_is lines n d labels end place inside at is)

pub good_step : (lines : Read) (n : ℕ) (d : Option Statement) (labels : List Label) (end place : ℕ) (good : Bool) (old new : List ℕ) → n < length lines → place ≡ place_of (lines_in lines) n
    → IsLayout lines labels end → AreGood (lines_in lines) n → Puts good old new (piece labels end n place (option_map meant (get_or lines n d))) → good ≡ true → AreGood (lines_in lines) (n + 1)
good_step lines n d labels end place good old new inside at is before puts holds =
    below_more (λ k. is_some (piece_of (lines_in lines) k) ≡ true) n before
    (sym (told lines n d labels end place good old new inside at is puts) ∙ holds)

pub body_end : (lines : Read) (n : ℕ) (body : List ℕ) → length lines ≤ n → n ≤ length lines → body ≡ body_before (lines_in lines) n → AreGood (lines_in lines) n → IsBody (lines_in lines) body
body_end lines n body low high is good =
    let same : n ≡ length (lines_in lines) = omega (arith, length-map lines (option_map meant)) in
    let all : AreGood (lines_in lines) (length (lines_in lines)) = subst (λ k. AreGood (lines_in lines) k) same good in
    let whole : body ≡ body_before (lines_in lines) (length (lines_in lines)) = is ∙ ap (body_before (lines_in lines)) same in
    let s = sized (lines_in lines) (length (lines_in lines)) all in
    record { good = all; bytes = whole; size = omega (arith, s.size, s.limit, ap (λ (bs : List ℕ). length bs) whole) }
