-- The label of a program's start is where an instruction may begin.
use Rattle.std.proofs.Common.{◌≡◌, ℕ, ◌+◌, ◌-◌, ◌<◌, ◌≤◌, zero, suc, Bool, true, false, not, ◌||◌, ◌==◌, List, [], ◌∷◌, ◌++◌, length, find, Option, Some, None, nat_le, refl, sym, ap, subst, ◌∙◌, arith}
use Rattle.std.specs.Prelude.{is_some, if◌then◌else◌}
use Rattle.std.specs.Str.{bytes_eq}
use Rattle.std.proofs.lemmas.Bool.{false≢true, and_parts}
use Rattle.std.proofs.lemmas.Option.{same_Some, none-some}
use Rattle.std.proofs.lemmas.Slice.Eq.{bytes_eq-Decides}
use Rattle.asm_parts.specs.Texts.{Text}
use Rattle.asm_lines.specs.Statements.{Statement, nothing, label, one, aimed, constant, address, word, bytes, align}
use Rattle.rv_asm.specs.Layout.{Lines, Label, LIMIT, placed_after, place_of, line_at, end_of, labels_at, labels_before, labels_of, label_in}
use Rattle.rv_asm.specs.Pieces.{given, label_at, statement_at, piece, is_entry, START}
use Rattle.rv_asm.specs.Files.{AreGood, body_before}
use Rattle.rv_asm.proofs.Sizes.{sized, grows}

Each : {X : Type 0} → (X → Type 0) → List X → Type 0
Each P [] = Unit {0}
Each P (x ∷ xs) = P x × Each P xs

-- a label tells its line
record Stands (lines : Lines) (n : ℕ) (l : Label) : Type 0 where
  inside : l.line < n
  place : l.place ≡ place_of lines l.line
  line : line_at lines l.line ≡ Some (label l.name)

each_later : (lines : Lines) (n m : ℕ) → n ≤ m → (ls : List Label) → Each (Stands lines n) ls → Each (Stands lines m) ls
unfolding Each
each_later lines n m le [] h = tt
each_later lines n m le (l ∷ ls) h = (record { inside = let i = h.0.inside in omega arith; place = h.0.place; line = h.0.line }, each_later lines n m le ls h.1)

each_both : (lines : Lines) (n : ℕ) (xs ys : List Label) → Each (Stands lines n) xs → Each (Stands lines n) ys → Each (Stands lines n) (xs ++ ys)
unfolding Each
each_both lines n [] ys h k = k
each_both lines n (x ∷ xs) ys h k = (h.0, each_both lines n xs ys h.1 k)

each_at : (lines : Lines) (n : ℕ) (line : Option Statement) → line_at lines n ≡ line → Each (Stands lines (suc n)) (labels_at (place_of lines n) n line)
unfolding Each
each_at lines n (Some (label name)) is = (record { inside = omega arith; place = refl; line = is }, tt)
each_at lines n None is = tt
each_at lines n (Some nothing) is = tt
each_at lines n (Some (one i)) is = tt
each_at lines n (Some (aimed i name)) is = tt
each_at lines n (Some (constant rd v)) is = tt
each_at lines n (Some (address rd name)) is = tt
each_at lines n (Some (word w)) is = tt
each_at lines n (Some (bytes bs)) is = tt
each_at lines n (Some align) is = tt

each_before : (lines : Lines) (n : ℕ) → Each (Stands lines n) (labels_before lines n)
unfolding Each labels_before
each_before lines zero = tt
each_before lines (suc n) =
    each_both lines (suc n) (labels_before lines n) (labels_at (place_of lines n) n (line_at lines n))
    (each_later lines n (suc n) (omega arith) (labels_before lines n) (each_before lines n)) (each_at lines n (line_at lines n) refl)

record Found (lines : Lines) (n : ℕ) (name : Text) (l : Label) : Type 0 where
  stands : Stands lines n l
  named : l.name ≡ name

found_by : (lines : Lines) (n : ℕ) (name : Text) (x : Label) (rest : Option Label) (l : Label) (t : Bool) → bytes_eq x.name name ≡ t
    → (if t then Some x else rest) ≡ Some l → Stands lines n x → (rest ≡ Some l → Found lines n name l) → Found lines n name l
found_by lines n name x rest l true is e h later =
    let same = same_Some _ _ e in
    record { stands = subst (Stands lines n) same h; named = ap (λ (k : Label). k.name) (sym same) ∙ (bytes_eq-Decides x.name name).0 is }
found_by lines n name x rest l false is e h later = later e

found_in : (lines : Lines) (n : ℕ) (name : Text) (ls : List Label) (l : Label) → find (λ k. bytes_eq k.name name) ls ≡ Some l → Each (Stands lines n) ls → Found lines n name l
unfolding Each
found_in lines n name [] l e h = absurd (none-some _ e)
found_in lines n name (x ∷ ls) l e h =
    found_by lines n name x (find (λ k. bytes_eq k.name name) ls) l (bytes_eq x.name name) refl e h.0 (λ f. found_in lines n name ls l f h.1)

found : (lines : Lines) (name : Text) (l : Label) → label_in (labels_of lines) name ≡ Some l → Found lines (length lines) name l
unfolding label_in
found lines name l e = found_in lines (length lines) name (labels_of lines) l e (each_before lines (length lines))

given_holds : (b : Bool) → is_some (given b []) ≡ true → b ≡ true
given_holds true h = refl
given_holds false h = absurd (false≢true h)

or_right : (a b : Bool) → a ≡ true → (not a || b) ≡ true → b ≡ true
or_right true b h k = k
or_right false b h k = absurd (false≢true h)

entry_by : (l : Label) (end n place : ℕ) (name : Text) → name ≡ START → is_some (label_at (Some l) end n place name) ≡ true → is_entry end place ≡ true
entry_by l end n place name is h =
    let both = and_parts (l.line == n) (not (bytes_eq name START) || is_entry end place) (given_holds _ h) in
    or_right (bytes_eq name START) (is_entry end place) ((bytes_eq-Decides name START).1 is) both.1

inner_piece : (labels : List Label) (end n place : ℕ) (name : Text) (fits : Bool)
    → is_some (if fits then statement_at labels end n place (label name) else None) ≡ true → is_some (label_at (label_in labels name) end n place name) ≡ true
unfolding statement_at
inner_piece labels end n place name true h = h
inner_piece labels end n place name false h = absurd (false≢true h)

label_piece : (labels : List Label) (end n place : ℕ) (name : Text) (line : Option Statement) → line ≡ Some (label name)
    → is_some (piece labels end n place line) ≡ true → is_some (label_at (label_in labels name) end n place name) ≡ true
unfolding piece
label_piece labels end n place name line is h =
    inner_piece labels end n place name (nat_le (placed_after place (Some (label name))) LIMIT) (subst (λ (k : Option Statement). is_some (piece labels end n place k) ≡ true) is h)

-- where the label of the start is
pub record IsStart (lines : Lines) (l : Label) : Type 0 where
  pub before_end : l.place ≤ end_of lines
  pub entry : is_entry (end_of lines) l.place ≡ true

before : (lines : Lines) (k : ℕ) → AreGood lines (length lines) → k < length lines → place_of lines k ≤ end_of lines
before lines k good h =
    let here = sized lines k (λ j below. good j (omega arith)) in
    let end = sized lines (length lines) good in
    let more = grows lines k (length lines - k) in
    let same : length (body_before lines (length lines - k + k)) ≡ length (body_before lines (length lines)) = ap (λ j. length (body_before lines j)) (back (length lines) k h) in
    omega (arith, here.size, end.size, more, same)
  where
    back : (n k : ℕ) → k < n → n - k + k ≡ n
    back n k h = omega arith

pub started : (lines : Lines) (l : Label) → AreGood lines (length lines) → label_in (labels_of lines) START ≡ Some l → IsStart lines l
started lines l good e =
    let f = found lines START l e in
    let same : label_in (labels_of lines) l.name ≡ Some l = ap (label_in (labels_of lines)) f.named ∙ e in
    let there = label_piece (labels_of lines) (end_of lines) l.line (place_of lines l.line) l.name (line_at lines l.line) f.stands.line (good l.line f.stands.inside) in
    let entry = entry_by l (end_of lines) l.line (place_of lines l.line) l.name f.named
    (subst (λ (k : Option Label). is_some (label_at k (end_of lines) l.line (place_of lines l.line) l.name) ≡ true) same there) in
    let low = before lines l.line good f.stands.inside in
    record {
      before_end = subst (λ p. p ≤ end_of lines) (sym f.stands.place) low;
      entry = subst (λ p. is_entry (end_of lines) p ≡ true) (sym f.stands.place) entry;
    }
