-- Where a text is cut, what follows a damage, and what stands before it
use Rattle.std.proofs.Common.{◌≡◌, ℕ, zero, suc, ◌+◌, ◌-◌, ◌<◌, inl, inr, Bool, List, ◌++◌, length, take, refl, sym, ap, ◌∙◌, append_assoc, length-append, arith, lit<}
use Rattle.std.proofs.Math.Seq.{take-append-add}
use Rattle.std.proofs.lemmas.List.{take-append-le, length-take-le, take_all}
use Rattle.std.proofs.lemmas.Bool.{cases_lt}
use Rattle.image_format.specs.Format.{Size, n8, n16, n32, n64, FormatOf, unsigned, raw, give, next, byte_count, number_in, Spells, Breaks, BreaksField}
use Rattle.image_format.proofs.Numerals.{length-number_text}

size-positive : (size : Size) → 0 < byte_count size
unfolding byte_count
size-positive n8 = lit< tt
size-positive n16 = lit< tt
size-positive n32 = lit< tt
size-positive n64 = lit< tt

cut_field : (size n : ℕ) (allowed : Bool) (text : List ℕ) → length text ≡ size → n < length text → BreaksField size allowed (take n text) n
cut_field size n allowed text e h =
    let short : length (take n text) ≡ n = length-take-le n text (omega arith) in
    inl (rw short (omega arith), sym short)

-- a spelling that is cut breaks at its new length
pub cut : {A : Type 0} (f : FormatOf A) (text : List ℕ) (a : A) (n : ℕ) → Spells f text a → n < length text → Breaks f (take n text) n
unfolding Spells Breaks
cut (unsigned size ok) text a n s h = cut_field (byte_count size) n _ text (ap length s.0 ∙ length-number_text size a) h
cut (raw size ok) text a n s h = cut_field size n _ text (ap length s.0 ∙ s.1) h
cut (give value) text a n s h = absurd (omega (arith, ap length s.0))
cut (next f k) text a n (b, first, rest, e, s, r) h =
    elim (cases_lt n (length first)) [
      | inl early ↦
          let same : take n text ≡ take n first = ap (take n) e ∙ take-append-le n first rest (omega arith) in
          inl (rw same (cut f first b n s early))
      | inr late ↦
          let m = n - length first in
          let split : n ≡ length first + m = omega arith in
          let same : take n text ≡ first ++ take m rest = ap (take n) e ∙ ap (λ (i : ℕ). take i (first ++ rest)) split ∙ take-append-add first rest m in
          let size : length text ≡ length first + length rest = ap length e ∙ length-append first rest in
          let inside : m < length rest = omega arith in
          inr (b, first, take m rest, m, same, s, cut (k b) rest a m r inside, split)
    ]

stays_field : (size : ℕ) (ok : List ℕ → Bool) (text more : List ℕ) (n : ℕ) → BreaksField size (ok (take size text)) text n → n < length text → BreaksField size (ok (take size (text ++ more))) (text ++ more) n
stays_field size ok text more n (inl (short, place)) h = absurd (omega arith)
stays_field size ok text more n (inr (full, refused, place)) h =
    inr (rw length-append (omega arith), ap ok (take-append-le size text more full) ∙ refused, place)

-- what follows a damage doesn't undo it
pub stays : {A : Type 0} (f : FormatOf A) (text more : List ℕ) (n : ℕ) → Breaks f text n → n < length text → Breaks f (text ++ more) n
unfolding Breaks
stays (unsigned size ok) text more n b h = stays_field (byte_count size) (λ bytes. ok (number_in size bytes)) text more n b h
stays (raw size ok) text more n b h = stays_field size ok text more n b h
stays (give a) text more n b h = elim b [ ]
stays (next f k) text more n (inl b) h = inl (stays f text more n b h)
stays (next f k) text more n (inr (b, first, rest, m, e, s, r, place)) h =
    let size : length text ≡ length first + length rest = ap length e ∙ length-append first rest in
    let inside : m < length rest = omega arith in
    inr (b, first, rest ++ more, m, ap (λ (t : List ℕ). t ++ more) e ∙ append_assoc first rest more, s, stays (k b) rest more m r inside, place)

before_field : (size : ℕ) (ok : List ℕ → Bool) (text : List ℕ) (n : ℕ) → BreaksField size (ok (take size text)) text n → BreaksField size (ok (take size (take n text))) (take n text) n
before_field size ok text n (inl (short, place)) =
    let same : take n text ≡ text = take_all n text (omega arith) in
    rw same (inl (short, place))
before_field zero ok text n (inr (full, refused, place)) = rw place (inr (omega arith, refused, refl))
before_field (suc size) ok text n (inr (full, refused, place)) = rw place (inl (omega arith, refl))

-- what stands before a damage alone only ends too early
pub before : {A : Type 0} (f : FormatOf A) (text : List ℕ) (n : ℕ) → Breaks f text n → Breaks f (take n text) n
unfolding Breaks
before (unsigned size ok) text n b = before_field (byte_count size) (λ bytes. ok (number_in size bytes)) text n b
before (raw size ok) text n b = before_field size ok text n b
before (give a) text n b = elim b [ ]
before (next f k) text n (inl b) = inl (before f text n b)
before (next f k) text n (inr (b, first, rest, m, e, s, r, place)) =
    let same : take n text ≡ first ++ take m rest = ap (take n) e ∙ ap (λ (i : ℕ). take i (first ++ rest)) place ∙ take-append-add first rest m in
    inr (b, first, take m rest, m, same, s, before (k b) rest m r, place)
