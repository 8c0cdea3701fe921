-- How many bytes the lines of a program have, where each keeps the rules.
use Rattle.std.proofs.Common.{◌≡◌, ℕ, ◌+◌, ◌-◌, ◌≤◌, ◌%◌, ◌^◌, zero, suc, Bool, true, false, ◌&&◌, List, [], ◌++◌, length, min, Option, Some, None, nat_le, refl, sym, ap, ◌∙◌, arith, length-append}
use Rattle.std.specs.Prelude.{is_some, unwrap_or, if◌then◌else◌}
use Rattle.std.proofs.lemmas.Bool.{false≢true}
use Rattle.std.proofs.lemmas.Bool.Decides.{nat_tests}
use Rattle.std.proofs.lemmas.List.{length-replicate}
use Rattle.plain_process.specs.declared.instruction.Insn.{Insn}
use Rattle.rv_words.specs.Words.{word_of}
use Rattle.asm_lines.specs.Statements.{Statement, nothing, label, one, aimed, constant, address, word, bytes, align}
use Rattle.rv_asm.specs.Layout.{Lines, Label, HEADERS, LIMIT, FAR, size_at, placed_after, place_of, line_at, end_of, labels_of, label_in}
use Rattle.rv_asm.specs.Pieces.{given, bytes_of, insn_at, pair_at, aimed_at, address_at, label_at, statement_at, piece, piece_of, has_word, is_aligned}
use Rattle.rv_asm.specs.Files.{body_before, AreGood}

-- a piece that is there has so many bytes
abbrev IsSized : Option (List ℕ) → ℕ → Type 0
IsSized o n = is_some o ≡ true → length (unwrap_or o []) ≡ n

given_sized : (holds : Bool) (bs : List ℕ) (n : ℕ) → length bs ≡ n → IsSized (given holds bs) n
given_sized true bs n e h = e
given_sized false bs n e h = absurd (false≢true h)

none_sized : (n : ℕ) → IsSized None n
none_sized n h = absurd (false≢true h)

insn_sized : (place : ℕ) (i : Insn) → IsSized (insn_at place i) 4
unfolding insn_at
insn_sized place i = given_sized (is_aligned place && has_word i) (bytes_of (word_of i)) 4 refl

pair_sized : (place : ℕ) (i j : Insn) → IsSized (pair_at place i j) 8
unfolding pair_at
pair_sized place i j = given_sized (is_aligned place && has_word i && has_word j) (bytes_of (word_of i) ++ bytes_of (word_of j)) 8 refl

aimed_sized : (place : ℕ) (i : Insn) (l : Option Label) → IsSized (aimed_at place i l) 4
aimed_sized place i None = none_sized 4
aimed_sized place i (Some l) = insn_sized place _

address_sized : (place rd : ℕ) (l : Option Label) → IsSized (address_at place rd l) 8
address_sized place rd None = none_sized 8
address_sized place rd (Some l) = pair_sized place _ _

label_sized : (l : Option Label) (end n place : ℕ) (name : List ℕ) → IsSized (label_at l end n place name) 0
label_sized None end n place name = none_sized 0
label_sized (Some first) end n place name = given_sized _ [] 0 refl

statement_sized : (labels : List Label) (end n place : ℕ) (s : Statement) → IsSized (statement_at labels end n place s) (size_at place s)
unfolding statement_at size_at
statement_sized labels end n place nothing h = refl
statement_sized labels end n place (label name) h = label_sized (label_in labels name) end n place name h
statement_sized labels end n place (one i) h = insn_sized place i h
statement_sized labels end n place (aimed i name) h = aimed_sized place i (label_in labels name) h
statement_sized labels end n place (constant rd value) h = pair_sized place _ _ h
statement_sized labels end n place (address rd name) h = address_sized place rd (label_in labels name) h
statement_sized labels end n place (word w) h = given_sized (is_aligned place) (bytes_of w) 4 refl h
statement_sized labels end n place (bytes bs) h = refl
statement_sized labels end n place align h = length-replicate ((2 ^ 32 - place) % 4) 0

within : (a b : ℕ) → nat_le a b ≡ true → a ≤ b
within a b h = grind (arith, nat_tests)

pub record IsPlaced (place : ℕ) (line : Option Statement) (bs : List ℕ) : Type 0 where
  pub limit : placed_after place line ≤ LIMIT
  pub size : placed_after place line ≡ place + length bs

uncapped : (place size : ℕ) → min (place + size) FAR ≤ LIMIT → min (place + size) FAR ≡ place + size
uncapped place size h = omega arith

placed_by : (labels : List Label) (end n place : ℕ) (s : Statement) (fits : Bool) → nat_le (placed_after place (Some s)) LIMIT ≡ fits
    → is_some (if fits then statement_at labels end n place s else None) ≡ true
    → IsPlaced place (Some s) (unwrap_or (if fits then statement_at labels end n place s else None) [])
placed_by labels end n place s false is h = absurd (false≢true h)
placed_by labels end n place s true is h =
    let low = within (placed_after place (Some s)) LIMIT is in
    record { limit = low; size = uncapped place (size_at place s) low ∙ ap (λ k. place + k) (sym (statement_sized labels end n place s h)) }

pub placed : (labels : List Label) (end n place : ℕ) (line : Option Statement) → is_some (piece labels end n place line) ≡ true
    → IsPlaced place line (unwrap_or (piece labels end n place line) [])
unfolding piece
placed labels end n place None h = absurd (false≢true h)
placed labels end n place (Some s) h = placed_by labels end n place s (nat_le (placed_after place (Some s)) LIMIT) refl h

-- the place of a line is behind the bytes of those before it
pub record AreSized (lines : Lines) (n : ℕ) : Type 0 where
  pub limit : place_of lines n ≤ LIMIT
  pub size : place_of lines n ≡ HEADERS + length (body_before lines n)

pub sized : (lines : Lines) (n : ℕ) → AreGood lines n → AreSized lines n
unfolding place_of body_before
sized lines zero good = record { limit = omega arith; size = refl }
sized lines (suc n) good =
    let before = sized lines n (λ k h. good k (omega arith)) in
    let here = placed (labels_of lines) (end_of lines) n (place_of lines n) (line_at lines n) (good n (omega arith)) in
    record {
      limit = here.limit;
      size = here.size
          ∙ omega (arith, before.size, length-append (body_before lines n) (unwrap_or (piece_of lines n) []));
    }

pub grows : (lines : Lines) (n d : ℕ) → length (body_before lines n) ≤ length (body_before lines (d + n))
unfolding body_before
grows lines n zero = omega (arith, ap (λ k. length (body_before lines k)) (zero_add n))
  where
    zero_add : (n : ℕ) → 0 + n ≡ n
    zero_add n = omega arith
grows lines n (suc d) =
    let more = grows lines n d in
    let next : length (body_before lines (suc (d + n))) ≡ length (body_before lines (d + n)) + length (unwrap_or (piece_of lines (d + n)) []) =
    length-append (body_before lines (d + n)) (unwrap_or (piece_of lines (d + n)) []) in
    omega (arith, more, next, ap (λ k. length (body_before lines k)) (suc_add d n))
  where
    suc_add : (d n : ℕ) → suc d + n ≡ suc (d + n)
    suc_add d n = omega arith
