-- The words of programs: a word is of one program at most, and its bytes give the argument strings.
use Rattle.std.proofs.Common.{◌≡◌, ◌≢◌, ◌⊎◌, inl, inr, ℕ, ◌+◌, ◌<◌, ◌≤◌, ◌==◌, List, [], ◌∷◌, ◌++◌, map, Bool, true, false, get_or, length, refl, sym, ap, subst, ◌∙◌, arith, length-append, append_assoc, append-nil, ne_eqb, eqb-true, eq-eqb}
use Rattle.std.specs.Prelude.{All, Option, Some, None, max, fold}
use Rattle.std.specs.Int.{IsInRange}
use Rattle.std.specs.List.{flat_map}
use Rattle.std.specs.Fmt.{decimal}
use Rattle.std.proofs.Math.ListN.{get_or-append}
use Rattle.std.proofs.lemmas.Fmt.{decimal_injective, decimal_nonempty}
use Rattle.std.proofs.lemmas.List.{length-map, map-append}
use Rattle.std.proofs.lemmas.List.Elements.{All-nil, All-cons, All-head, All-tail, All-from_get_or}
use Rattle.std.proofs.lemmas.Str.Pattern.{IsSplitOnceResult, split_after, split_parts}
use Rattle.std.specs.Borrow.{Bor}
use Rattle.std.specs.Option.{MatchOption}
use Rattle.job_words.specs.declared.programs.Parts.{Parts}
use Rattle.option_words.specs.Options.{Text}
use Rattle.job_words.specs.Programs.{ProgramText, IsProgram, HasNoComma, COMMA, COLON, listed, program_word, with_zero, hosts_of}
use Rattle.job_words.specs.Parts.{StandsFirst, zero_at_comma, with_zeros, ArePartsOf}
use Rattle.option_words.proofs.Numbers.{first_digit, decimal_lacks}
use Rattle.option_words.proofs.Settings.{begins_as_option}

abbrev Lacks : ℕ → List ℕ → Type 0
Lacks byte text = All (λ b. b ≢ byte) text

head_is : (a b : ℕ) (us bs : List ℕ) → a ∷ us ≡ b ∷ bs → a ≡ b
head_is a b us bs is = cc

tail_is : {A : Type 0} (a b : A) (us bs : List A) → a ∷ us ≡ b ∷ bs → us ≡ bs
tail_is a b us bs is = cc

first_of : {A : Type 0} (a b : A) (us bs : List A) → a ∷ us ≡ b ∷ bs → a ≡ b
first_of a b us bs is = cc

-- what stands before and behind the first such byte
pub apart : (byte : ℕ) (xs ys us bs : List ℕ) → Lacks byte xs → Lacks byte ys → xs ++ byte ∷ us ≡ ys ++ byte ∷ bs → (xs ≡ ys) × (us ≡ bs)
apart byte [] [] us bs none also is = (refl, tail_is byte byte us bs is)
apart byte [] (y ∷ ys) us bs none also is = absurd (All-head (λ b. b ≢ byte) y ys also (sym (head_is byte y us (ys ++ byte ∷ bs) is)))
apart byte (x ∷ xs) [] us bs none also is = absurd (All-head (λ b. b ≢ byte) x xs none (head_is x byte (xs ++ byte ∷ us) bs is))
apart byte (x ∷ xs) (y ∷ ys) us bs none also is =
    step (apart byte xs ys us bs (All-tail (λ b. b ≢ byte) x xs none) (All-tail (λ b. b ≢ byte) y ys also) (tail_is x y (xs ++ byte ∷ us) (ys ++ byte ∷ bs) is))
  where
    step : (xs ≡ ys) × (us ≡ bs) → (x ∷ xs ≡ y ∷ ys) × (us ≡ bs)
    step same = (ap (λ (b : ℕ). b ∷ xs) (head_is x y (xs ++ byte ∷ us) (ys ++ byte ∷ bs) is) ∙ ap (λ (bs : List ℕ). y ∷ bs) same.0, same.1)

lacks_it : (byte : ℕ) (xs ys us : List ℕ) → Lacks byte xs → xs ≡ ys ++ byte ∷ us → ⊥
lacks_it byte xs [] us none is = All-head (λ b. b ≢ byte) byte us (subst (Lacks byte) is none) refl
lacks_it byte [] (y ∷ ys) us none is = cc
lacks_it byte (x ∷ xs) (y ∷ ys) us none is = lacks_it byte xs ys us (All-tail (λ b. b ≢ byte) x xs none) (tail_is x y xs (ys ++ byte ∷ us) is)

-- ---- the texts between commas

pub record Lists (text : Text) : Type 0 where
  pub name : Text
  pub arguments : List Text
  pub is : text ≡ listed name arguments
  pub plain : HasNoComma name
  pub each : All HasNoComma arguments

-- any text is a list of texts with commas between them
pub lists : (text : Text) → Lists text
lists [] = record { name = []; arguments = []; is = refl; plain = All-nil (λ b. b ≢ COMMA); each = All-nil HasNoComma }
lists (byte ∷ rest) = step (byte == COMMA) refl (lists rest)
  where
    step : (b : Bool) → (byte == COMMA) ≡ b → Lists rest → Lists (byte ∷ rest)
    step true comma found = record {
      name = [];
      arguments = found.name ∷ found.arguments;
      is = ap (λ (b : ℕ). b ∷ rest) (eqb-true byte COMMA comma) ∙ ap (λ (bs : Text). COMMA ∷ bs) found.is;
      plain = All-nil (λ b. b ≢ COMMA);
      each = All-cons HasNoComma found.name found.arguments found.plain found.each;
    }
    step false other found = record {
      name = byte ∷ found.name;
      arguments = found.arguments;
      is = ap (λ (bs : Text). byte ∷ bs) found.is;
      plain = All-cons (λ b. b ≢ COMMA) byte found.name (λ is. let yes : (byte == COMMA) ≡ true = eq-eqb byte COMMA is in let bad : true ≡ false = sym yes ∙ other in cc) found.plain;
      each = found.each;
    }

pub same_lists : (name other : Text) (arguments others : List Text) → HasNoComma name → HasNoComma other → All HasNoComma arguments → All HasNoComma others
    → listed name arguments ≡ listed other others → (name ≡ other) × (arguments ≡ others)
same_lists name other [] [] plain also each all is = (sym (append-nil name) ∙ (is ∙ append-nil other), refl)
same_lists name other [] (b ∷ others) plain also each all is = absurd (lacks_it COMMA name other (listed b others) plain (sym (append-nil name) ∙ is))
same_lists name other (a ∷ arguments) [] plain also each all is = absurd (lacks_it COMMA other name (listed a arguments) also (sym (append-nil other) ∙ sym is))
same_lists name other (a ∷ arguments) (b ∷ others) plain also each all is =
    step (apart COMMA name other (listed a arguments) (listed b others) plain also is)
    (λ behind. same_lists a b arguments others (All-head HasNoComma a arguments each) (All-head HasNoComma b others all)
    (All-tail HasNoComma a arguments each) (All-tail HasNoComma b others all) behind)
  where
    step : (name ≡ other) × (listed a arguments ≡ listed b others) → (listed a arguments ≡ listed b others → (a ≡ b) × (arguments ≡ others)) → (name ≡ other) × (a ∷ arguments ≡ b ∷ others)
    step same next = let behind = next same.1 in (same.0, ap (λ (x : Text). x ∷ arguments) behind.0 ∙ ap (λ (xs : List Text). b ∷ xs) behind.1)

-- the name is what stands before the first comma
pub first_is_name : (text name : Text) (arguments : List Text) (first : Text) → HasNoComma name → text ≡ listed name arguments → StandsFirst text first → first ≡ name
first_is_name text name arguments first plain is stands = by arguments is stands.rest
  where
    by : (arguments : List Text) → text ≡ listed name arguments → (text ≡ first) ⊎ ((tail : Text) × (text ≡ first ++ COMMA ∷ tail)) → first ≡ name
    by [] is (inl whole) = sym whole ∙ (is ∙ append-nil name)
    by [] is (inr cut) = absurd (lacks_it COMMA name first cut.0 plain (sym (append-nil name) ∙ (sym is ∙ cut.1)))
    by (a ∷ rest) is (inl whole) = absurd (lacks_it COMMA first name (listed a rest) stands.plain (sym whole ∙ is))
    by (a ∷ rest) is (inr cut) = (apart COMMA first name cut.0 (listed a rest) stands.plain plain (sym cut.1 ∙ is)).0

-- ---- the argument strings

kept : (text : Text) → HasNoComma text → map zero_at_comma text ≡ text
kept [] plain = refl
kept (byte ∷ rest) plain =
    let other : (byte == COMMA) ≡ false = ne_eqb byte COMMA (All-head (λ b. b ≢ COMMA) byte rest plain) in
    let same : zero_at_comma byte ≡ byte = rw other in
    ap (λ (b : ℕ). b ∷ map zero_at_comma rest) same ∙ ap (λ (bs : Text). byte ∷ bs) (kept rest (All-tail (λ b. b ≢ COMMA) byte rest plain))

pub zeros : (name : Text) (arguments : List Text) → HasNoComma name → All HasNoComma arguments → with_zeros (listed name arguments) ≡ flat_map with_zero (name ∷ arguments)
zeros name [] plain each =
    ap (λ (text : Text). map zero_at_comma text ++ 0 ∷ []) (append-nil name)
    ∙ (ap (λ (text : Text). text ++ 0 ∷ []) (kept name plain) ∙ sym (append-nil (with_zero name)))
zeros name (a ∷ rest) plain each =
    ap (λ (text : List ℕ). text ++ 0 ∷ []) (map-append zero_at_comma name (COMMA ∷ listed a rest))
    ∙ (append_assoc (map zero_at_comma name) (0 ∷ map zero_at_comma (listed a rest)) (0 ∷ [])
    ∙ (ap (λ (text : Text). text ++ 0 ∷ with_zeros (listed a rest)) (kept name plain)
    ∙ (ap (λ (text : List ℕ). name ++ 0 ∷ text) (zeros a rest (All-head HasNoComma a rest each) (All-tail HasNoComma a rest each))
    ∙ sym (append_assoc name (0 ∷ []) (flat_map with_zero (a ∷ rest))))))

pub bytes_length : (name : Text) (arguments : List Text) → HasNoComma name → All HasNoComma arguments → length (flat_map with_zero (name ∷ arguments)) ≡ length (listed name arguments) + 1
bytes_length name arguments plain each =
    ap length (sym (zeros name arguments plain each))
    ∙ (length-append (map zero_at_comma (listed name arguments)) (0 ∷ []) ∙ ap (λ (n : ℕ). n + 1) (length-map (listed name arguments) zero_at_comma))

-- ---- words are of one program at most

same_program : (host other : ℕ) (name also : Text) (arguments others : List Text) → host ≡ other → name ≡ also → arguments ≡ others
    → let a : ProgramText = record { host = host; name = name; arguments = arguments } in let b : ProgramText = record { host = other; name = also; arguments = others } in a ≡ b
same_program host other name also arguments others one two three =
    ap (λ (h : ℕ). let a : ProgramText = record { host = h; name = name; arguments = arguments } in a) one
    ∙ (ap (λ (n : Text). let a : ProgramText = record { host = other; name = n; arguments = arguments } in a) two
    ∙ ap (λ (l : List Text). let a : ProgramText = record { host = other; name = also; arguments = l } in a) three)

pub one_program : (p q : ProgramText) → IsProgram p → IsProgram q → program_word p ≡ program_word q → p ≡ q
one_program p q first second is =
    step (apart COLON (decimal p.host) (decimal q.host) (listed p.name p.arguments) (listed q.name q.arguments)
    (decimal_lacks COLON p.host (omega (arith, first.host)) (omega arith)) (decimal_lacks COLON q.host (omega (arith, second.host)) (omega arith)) is)
  where
    step : (decimal p.host ≡ decimal q.host) × (listed p.name p.arguments ≡ listed q.name q.arguments) → p ≡ q
    step same =
        let behind = same_lists p.name q.name p.arguments q.arguments first.name second.name first.arguments second.arguments same.1 in
        same_program p.host q.host p.name q.name p.arguments q.arguments (decimal_injective p.host q.host (omega (arith, first.host)) (omega (arith, second.host)) same.0) behind.0 behind.1

pub one_list : (ps qs : List ProgramText) → All IsProgram ps → All IsProgram qs → map program_word ps ≡ map program_word qs → ps ≡ qs
one_list [] [] first second is = refl
one_list [] (q ∷ qs) first second is = absurd (cc)
one_list (p ∷ ps) [] first second is = absurd (cc)
one_list (p ∷ ps) (q ∷ qs) first second is =
    let here : p ≡ q = one_program p q (All-head IsProgram p ps first) (All-head IsProgram q qs second) (first_of (program_word p) (program_word q) (map program_word ps) (map program_word qs) is) in
    let rest : ps ≡ qs = one_list ps qs (All-tail IsProgram p ps first) (All-tail IsProgram q qs second) (tail_is (program_word p) (program_word q) (map program_word ps) (map program_word qs) is) in
    ap (λ (r : ProgramText). r ∷ ps) here ∙ ap (λ (rs : List ProgramText). q ∷ rs) rest

-- ---- no program's word begins as an option does

first_byte : (p : ProgramText) → IsProgram p → IsInRange 48 57 (get_or (program_word p) 0 0)
first_byte p is =
    subst (λ (b : ℕ). IsInRange 48 57 b)
    (sym (get_or-append (decimal p.host) (COLON ∷ listed p.name p.arguments) 0 0 (decimal_nonempty p.host (omega (arith, is.host)))))
    (first_digit p.host (omega (arith, is.host)))

pub programs_plain : (ps : List ProgramText) → All IsProgram ps → begins_as_option (map program_word ps) ≡ false
unfolding begins_as_option
programs_plain [] each = refl
programs_plain (p ∷ ps) each =
    let digit = first_byte p (All-head IsProgram p ps each) in
    ne_eqb (get_or (program_word p) 0 0) 45 (λ is. omega (arith, digit))

-- ---- hosts

hosts_from : ℕ → List ProgramText → ℕ
hosts_from count programs = fold (λ (most : ℕ) (program : ProgramText). max most (program.host + 1)) count programs

below_from : (count nodes : ℕ) (ps : List ProgramText) → hosts_from count ps ≤ nodes → (count ≤ nodes) × All (λ p. p.host < nodes) ps
unfolding hosts_from
below_from count nodes [] few = (few, All-nil (λ p. p.host < nodes))
below_from count nodes (p ∷ ps) few = step (below_from (max count (p.host + 1)) nodes ps few)
  where
    step : (max count (p.host + 1) ≤ nodes) × All (λ p. p.host < nodes) ps → (count ≤ nodes) × All (λ p. p.host < nodes) (p ∷ ps)
    step h = (omega (arith, h.0), All-cons (λ p. p.host < nodes) p ps (omega (arith, h.0)) h.1)

few_from : (count nodes : ℕ) (ps : List ProgramText) → count ≤ nodes → All (λ p. p.host < nodes) ps → hosts_from count ps ≤ nodes
unfolding hosts_from
few_from count nodes [] few all = few
few_from count nodes (p ∷ ps) few all =
    let here : p.host < nodes = All-head (λ p. p.host < nodes) p ps all in
    few_from (max count (p.host + 1)) nodes ps (omega (arith, here, few)) (All-tail (λ p. p.host < nodes) p ps all)

pub placed : (nodes : ℕ) (ps : List ProgramText) → hosts_of ps ≤ nodes → All (λ p. p.host < nodes) ps
unfolding hosts_from
placed nodes ps few = (below_from 0 nodes ps few).1

pub hosts_below : (nodes : ℕ) (ps : List ProgramText) → All (λ p. p.host < nodes) ps → hosts_of ps ≤ nodes
unfolding hosts_from
hosts_below nodes ps all = few_from 0 nodes ps (omega arith) all

pub hosts_few : (ps : List ProgramText) → All IsProgram ps → hosts_of ps ≤ 16
hosts_few ps each = hosts_below 16 ps (weaken ps each)
  where
    weaken : (ps : List ProgramText) → All IsProgram ps → All (λ p. p.host < 16) ps
    weaken [] each = All-nil (λ p. p.host < 16)
    weaken (p ∷ ps) each = All-cons (λ p. p.host < 16) p ps (All-head IsProgram p ps each).host (weaken ps (All-tail IsProgram p ps each))

-- ---- the reader's steps

abbrev pub NoProgram : Text → Type 0
NoProgram word = (program : ProgramText) → IsProgram program → word ≡ program_word program → ⊥

pub cut_of : (program : ProgramText) → IsProgram program → (word : Text) → word ≡ program_word program → (found : Option (Bor Text × Bor Text)) → IsSplitOnceResult COLON word found
    → MatchOption found ⊥ (λ x. (x.0.now ≡ decimal program.host) × (x.1.now ≡ listed program.name program.arguments))
cut_of program is word text found cut =
    split_after COLON word (decimal program.host) (listed program.name program.arguments) found cut (omega arith) text
    (λ i inside. decimal_lacks COLON program.host (omega (arith, is.host)) (omega arith) i 0 inside)

pub host_small : (program : ProgramText) → IsProgram program → program.host ≤ 15
host_small program is = omega (arith, is.host)

pub not_empty : (text : Text) (empty : Bool) → empty ≡ (length text == 0) → empty ≡ false → 1 ≤ length text
not_empty [] empty tells is = let bad : true ≡ false = sym tells ∙ is in cc
not_empty (byte ∷ rest) empty tells is = omega arith

pub empty_name : (first name : Text) (empty : Bool) → empty ≡ (length first == 0) → empty ≡ true → first ≡ name → 1 ≤ length name → ⊥
empty_name first name empty tells is same some =
    let none : length first ≡ 0 = eqb-true (length first) 0 (sym tells ∙ is) in
    let size : length first ≡ length name = ap length same in
    omega (arith, none, size, some)

pub found_program : (word host behind first : Text) (n : ℕ) → word ≡ host ++ COLON ∷ behind → host ≡ decimal n → n ≤ 15 → StandsFirst behind first → 1 ≤ length first → length first ≤ 255
    → length behind < 4096 → (parts : Parts) → parts.host ≡ n → parts.name.now ≡ first → parts.listed.now ≡ behind
    → (program : ProgramText) × IsProgram program × (word ≡ program_word program) × ArePartsOf program parts
found_program word host behind first n text number small stands some short few parts is_host is_name is_listed = go (lists behind)
  where
    go : Lists behind → (program : ProgramText) × IsProgram program × (word ≡ program_word program) × ArePartsOf program parts
    go found =
        let same : first ≡ found.name = first_is_name behind found.name found.arguments first found.plain found.is stands in
        let bytes : length (flat_map with_zero (found.name ∷ found.arguments)) ≡ length (listed found.name found.arguments) + 1 = bytes_length found.name found.arguments found.plain found.each in
        let size : length behind ≡ length (listed found.name found.arguments) = ap length found.is in
        let program : ProgramText = record { host = n; name = found.name; arguments = found.arguments } in
        let is : IsProgram program = record {
          host = omega (arith, small);
          some = subst (λ (name : Text). 1 ≤ length name) same some;
          short = subst (λ (name : Text). length name ≤ 255) same short;
          name = found.plain;
          arguments = found.each;
          bytes = omega (arith, bytes, size, few);
        } in
        let are : ArePartsOf program parts = record { host = is_host; name = is_name ∙ same; listed = is_listed ∙ found.is } in
        (program, is, text ∙ (ap (λ (front : Text). front ++ COLON ∷ behind) number ∙ ap (λ (back : Text). decimal n ++ COLON ∷ back) found.is), are)

pub stands_cut : (text : Text) (x : Bor Text × Bor Text) → IsSplitOnceResult COMMA text (Some x) → StandsFirst text x.0.now
stands_cut text x cut =
    let parts = split_parts COMMA text (Some x) cut (omega arith) in
    record { plain = All-from_get_or (λ b. b ≢ COMMA) x.0.now 0 parts.1; rest = inr (x.1.now, parts.0) }

pub stands_whole : (text : Text) → IsSplitOnceResult COMMA text None → StandsFirst text text
stands_whole text none = record { plain = All-from_get_or (λ b. b ≢ COMMA) text 0 (split_parts COMMA text None none (omega arith)); rest = inl refl }
