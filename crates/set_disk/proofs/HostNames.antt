-- A name that a file of a folder has on the host, and the parts that are read of it.
use Rattle.std.proofs.Common.{◌≡◌, ◌≢◌, ℕ, zero, suc, ◌<◌, ◌^◌, List, ◌∷◌, ◌++◌, length, get_or, Option, Some, Result, Ok, is_ok, true, false, drop, sym, ◌∙◌, ap, arith}
use Rattle.std.specs.Prelude.{codes}
use Rattle.std.specs.Borrow.{Bor}
use Rattle.std.specs.Option.{MatchOption}
use Rattle.std.specs.Result.{result_ok}
use Rattle.std.specs.Int.{IsInRange}
use Rattle.std.specs.Fmt.{decimal}
use Rattle.std.specs.Str.{all_ascii_digits}
use Rattle.std.specs.Str.Parse.{ParsesUnsigned, digits_value}
use Rattle.std.proofs.lemmas.Str.Parse.{IsNumeralModel, numerals_by_value, tells_all_ascii_digits, digit_at}
use Rattle.std.proofs.lemmas.Fmt.{parse-decimal, digits_decimal}
use Rattle.std.proofs.lemmas.Str.Pattern.{IsSplitOnceResult, split_after}
use Rattle.disk_folder.specs.declared.file_name.FileName.{FileName}
use Rattle.set_disk.specs.HostNames.{IsSmall, host_name}

numerals : IsNumeralModel (λ ds. all_ascii_digits ds ≡ true) (digits_value 10)
numerals = numerals_by_value _ tells_all_ascii_digits

digit_in : (n i : ℕ) → n < 2 ^ 32 → i < length (decimal n) → IsInRange 48 57 (get_or (decimal n) i 0)
digit_in n i small inside = digit_at (decimal n) i (numerals.to (decimal n) (digits_decimal numerals n (omega (arith, small)))) inside

no_underline : (n i : ℕ) → n < 2 ^ 32 → i < length (115 ∷ decimal n) → get_or (115 ∷ decimal n) i 0 ≢ 95
no_underline n zero small inside is = absurd (omega (arith, is))
no_underline n (suc i) small inside is = let digit = digit_in n i small (omega (arith, inside)) in omega (arith, digit, is)

no_point : (n i : ℕ) → n < 2 ^ 32 → i < length (decimal n) → get_or (decimal n) i 0 ≢ 46
no_point n i small inside is = let digit = digit_in n i small inside in omega (arith, digit, is)

-- before and behind the first _
pub halves : (name : FileName) → IsSmall name → (text : List ℕ) → text ≡ host_name name → (cut : Option (Bor (List ℕ) × Bor (List ℕ))) → IsSplitOnceResult 95 text cut
    → MatchOption cut ⊥ (λ x. (x.0.now ≡ 115 ∷ decimal name.slot) × (x.1.now ≡ decimal name.index ++ codes ".img"))
halves name small text is cut found =
    split_after 95 text (115 ∷ decimal name.slot) (decimal name.index ++ codes ".img") cut found (omega arith) is (λ i inside. no_underline name.slot i small.slot inside)

-- before and behind the first .
pub ending : (name : FileName) → IsSmall name → (rest : List ℕ) → rest ≡ decimal name.index ++ codes ".img" → (cut : Option (Bor (List ℕ) × Bor (List ℕ))) → IsSplitOnceResult 46 rest cut
    → MatchOption cut ⊥ (λ x. (x.0.now ≡ decimal name.index) × (x.1.now ≡ codes "img"))
ending name small rest is cut found =
    split_after 46 rest (decimal name.index) (codes "img") cut found (omega arith) is (λ i inside. no_point name.index i small.index inside)

-- what stands behind the s
pub slot_text : (name : FileName) → IsSmall name → (text : List ℕ) → text ≡ host_name name → (x : Bor (List ℕ) × Bor (List ℕ)) → IsSplitOnceResult 95 text (Some x) → (digits : List ℕ) → x.0.now ≡ 115 ∷ digits
    → digits ≡ decimal name.slot
slot_text name small text is x found digits front = ap (drop 1) (sym front ∙ (halves name small text is (Some x) found).0)

pub index_text : (name : FileName) → IsSmall name → (text : List ℕ) → text ≡ host_name name → (x y : Bor (List ℕ) × Bor (List ℕ)) → IsSplitOnceResult 95 text (Some x) → IsSplitOnceResult 46 x.1.now (Some y)
    → y.0.now ≡ decimal name.index
index_text name small text is x y found also = (ending name small x.1.now (halves name small text is (Some x) found).1 (Some y) also).0

pub not_refused : {E : Type 0} (n : ℕ) → n < 2 ^ 32 → (text : List ℕ) → text ≡ decimal n → (r : Result ℕ E) → ParsesUnsigned 32 10 text r → false ≡ is_ok r → ⊥
not_refused n small text is r parses wrong = let yes : r ≡ Ok n = parse-decimal 32 n text r small (omega arith) is parses in cc

-- the number that a text spells is read of it
pub reads : {E : Type 0} (m n : ℕ) → n < 2 ^ 32 → (text : List ℕ) → text ≡ decimal n → (r : Result ℕ E) → ParsesUnsigned 32 10 text r → Some m ≡ result_ok r → m ≡ n
reads m n small text is r parses read = let yes : r ≡ Ok n = parse-decimal 32 n text r small (omega arith) is parses in let same : Some m ≡ Some n = read ∙ ap result_ok yes in cc

pub same_name : (name : FileName) (slot index : ℕ) → slot ≡ name.slot → index ≡ name.index → let read : FileName = record { slot = slot; index = index } in Some read ≡ Some name
same_name name slot index first second =
    ap (λ (s : ℕ). let read : FileName = record { slot = s; index = index } in Some read) first
    ∙ ap (λ (i : ℕ). let read : FileName = record { slot = name.slot; index = i } in Some read) second
