-- The items of a list, read one after the other: one more, one that breaks, and none left
use Rattle.std.proofs.Common.{◌≡◌, ℕ, suc, ◌+◌, ◌-◌, ◌<◌, ◌≤◌, Bool, true, false, List, [], ◌∷◌, ◌++◌, length, take, Result, Ok, Err, refl, sym, ap, subst, ◌∙◌, arith}
use Rattle.std.specs.Prelude.{IsErr, IsErrAnd}
use Rattle.std.proofs.lemmas.Bool.{true≢false}
use Rattle.std.proofs.Math.ListN.{set}
use Rattle.std.proofs.lemmas.List.{take_more_set, take_all}
use Rattle.image_format.specs.Format.{FormatOf, Size, unsigned, n32, any, each, counted, byte_count, number_in}
use Rattle.image_format.specs.declared.fields.Fault.{Fault}
use Rattle.image_format.specs.declared.fields.Fault.TheVariants.{Left, Memory}
use Rattle.image_format.specs.Reading.{Gives, read, read_next}
use Rattle.image_format.proofs.Laws.{read_if-ok, read_if-gives, read_if-refuses}

one_less : (n i : ℕ) → i < n → n - i ≡ suc (n - (i + 1))
one_less n i h = omega arith

pub goes_on : {X : Type 0} (item : List X → FormatOf X) (n i : ℕ) (front : List X) (x : X) (text rest : List ℕ) → i < n → read (item front) text ≡ Ok (x, rest) → read (each item (n - i) front) text ≡ read (each item (n - (i + 1)) (front ++ x ∷ [])) rest
unfolding read read_next each
goes_on item n i front x text rest h e = rw (one_less n i h, e) refl

pub ends : {X : Type 0} (item : List X → FormatOf X) (n i : ℕ) (front : List X) (text : List ℕ) (left : ℕ) → i < n → read (item front) text ≡ Err left → read (each item (n - i) front) text ≡ Err left
unfolding read read_next each
ends item n i front text left h e = rw (one_less n i h, e) refl

pub is_done : {X : Type 0} (item : List X → FormatOf X) (n i : ℕ) (front : List X) (text : List ℕ) → n ≤ i → read (each item (n - i) front) text ≡ Ok (front, text)
unfolding read each
is_done item n i front text h = let none : n - i ≡ 0 = omega arith in rw none refl

-- both at once
pub one_item : {X : Type 0} (item : List X → FormatOf X) (n i : ℕ) (front : List X) (text : List ℕ) → i < n → read (each item (n - i) front) text ≡ read_next (read (item front) text) (λ x rest. read (each item (n - (i + 1)) (front ++ x ∷ [])) rest)
unfolding read each
one_item item n i front text h = rw (one_less n i h) refl

-- a number of which any value was read passes its test, or doesn't

pub number_passes : (size : Size) (ok : ℕ → Bool) (text rest : List ℕ) (n : ℕ) → read (unsigned size any) text ≡ Ok (n, rest) → ok n ≡ true → read (unsigned size ok) text ≡ Ok (n, rest)
unfolding read
number_passes size ok text rest n e h =
    let (full, allowed, value, tail) = read_if-ok _ _ _ _ _ _ _ e in
    let passes : ok (number_in size (take (byte_count size) text)) ≡ true = ap ok (sym value) ∙ h in
    rw (value, tail) (read_if-gives _ _ _ _ _ full passes)

pub number_fails : (size : Size) (ok : ℕ → Bool) (text rest : List ℕ) (n : ℕ) → read (unsigned size any) text ≡ Ok (n, rest) → ok n ≡ false → read (unsigned size ok) text ≡ Err (length text)
unfolding read
number_fails size ok text rest n e h =
    let (full, allowed, value, tail) = read_if-ok _ _ _ _ _ _ _ e in
    read_if-refuses _ _ _ _ _ full (ap ok (sym value) ∙ h)

pub counts : {X : Type 0} (ok : ℕ → Bool) (item : List X → FormatOf X) (text rest : List ℕ) (n : ℕ) → read (unsigned n32 any) text ≡ Ok (n, rest) → ok n ≡ true → read (counted ok item) text ≡ read (each item n []) rest
unfolding read read_next counted
counts ok item text rest n e h = rw (number_passes n32 ok text rest n e h) refl

-- words that are written into a list of their number

pub words_more : {X : Type 0} (item : List X → FormatOf X) (n i : ℕ) (words : List X) (w : X) (text rest : List ℕ) (whole : Result (List X × List ℕ) ℕ) → i < n → length words ≡ n
    → read (each item (n - i) (take i words)) text ≡ whole → read (item (take i words)) text ≡ Ok (w, rest) → read (each item (n - (i + 1)) (take (i + 1) (set words i w))) rest ≡ whole
words_more item n i words w text rest whole inside size same e =
    ap (λ (front : List _). read (each item (n - (i + 1)) front) rest) (take_more_set words i w (rw size inside)) ∙ sym (goes_on item n i (take i words) w text rest inside e) ∙ same

pub words_end : {X : Type 0} (item : List X → FormatOf X) (n i : ℕ) (words : List X) (text : List ℕ) → i < n
    → read (each item (n - i) (take i words)) text ≡ read_next (read (item (take i words)) text) (λ x rest. read (each item (n - (i + 1)) (take i words ++ x ∷ [])) rest)
words_end item n i words text h = one_item item n i (take i words) text h

pub words_done : {X : Type 0} (item : List X → FormatOf X) (n i : ℕ) (words : List X) (text : List ℕ) → n ≤ i → length words ≡ n → read (each item (n - i) (take i words)) text ≡ Ok (words, text)
words_done item n i words text h size = is_done item n i (take i words) text h ∙ ap (λ (all : List _). Ok (all, text)) (take_all i words (rw size h))

-- a reader that hands on a fault of its callee
pub gives_fault : {R S A B : Type 0} (view : R → A × List ℕ) (seen : S → B × List ℕ) (fault : Fault) (result : Result R Fault) (answer : Result (A × List ℕ) ℕ) (part : Result (B × List ℕ) ℕ)
    → IsErr result × IsErrAnd result (λ e. e ≡ fault) → Gives seen (Err fault) part → ((left : ℕ) → part ≡ Err left → answer ≡ Err left) → Gives view result answer
gives_fault view seen fault (Ok r) answer part is gives same = absurd (true≢false (sym is.0))
gives_fault view seen fault (Err (Left left)) answer part is gives same = same left (subst (λ (e : Fault). Gives seen (Err e) part) (sym is.1) gives)
gives_fault view seen fault (Err Memory) answer part is gives same = tt
