-- A word that decodes has a row, and its instruction is that row's with the word's operands.
use Rattle.std.proofs.Common.{◌≡◌, ℕ, ◌<◌, ◌^◌, IfSome, Bool, true, false, if◌then◌else◌, find, List, [], ◌∷◌, Option, Some, None, sym, refl, ◌∙◌, ap}
use Rattle.std.proofs.lemmas.Option.{same_Some, none-some}
use Rattle.std.specs.Option.{option_map}
use Rattle.plain_process.specs.declared.instruction.Insn.{Insn}
use Rattle.plain_process.specs.declared.instruction.Op.{Op}
use Rattle.plain_process.specs.Instructions.{decoded, has_match, row_of, rows}
use Rattle.rv_words.specs.Fields.{with_operands}
use Rattle.rv_words.specs.Validity.{IsValid}

pub record IsRead (w : ℕ) (insn : Insn) : Type 0 where
  pub op : Op
  pub row : row_of w ≡ Some op
  pub operands : insn ≡ with_operands w op

from_row : (w : ℕ) (insn : Insn) (row : Option Op) → row_of w ≡ row → option_map (with_operands w) row ≡ Some insn → IsRead w insn
from_row w insn None found e = absurd (none-some _ e)
from_row w insn (Some op) found e = record { op = op; row = found; operands = sym (same_Some _ _ e) }

pub read-decoded : (w : ℕ) (insn : Insn) → decoded w ≡ Some insn → IsRead w insn
unfolding decoded
read-decoded w insn e = from_row w insn (row_of w) refl e

-- a row that is found matches
found-passes-by : (p : Op → Bool) (x : Op) (xs : List Op) (op : Op) (b : Bool) → p x ≡ b → (find p xs ≡ Some op → p op ≡ true) → (if b then Some x else find p xs) ≡ Some op → p op ≡ true
found-passes-by p x xs op true e later found = ap p (sym (same_Some _ _ found)) ∙ e
found-passes-by p x xs op false e later found = later found

pub found-passes : (p : Op → Bool) (xs : List Op) (op : Op) → find p xs ≡ Some op → p op ≡ true
found-passes p [] op found = absurd (none-some _ found)
found-passes p (x ∷ xs) op found = found-passes-by p x xs op (p x) refl (λ f. found-passes p xs op f) found

pub row_matches : (w : ℕ) (op : Op) → row_of w ≡ Some op → has_match w op ≡ true
unfolding row_of
row_matches w op found = found-passes (has_match w) rows op found

-- what a word decodes to is valid
valid-decoded-by : (w : ℕ) → w < 2 ^ 32 → (r : Option Insn) → decoded w ≡ r → IfSome r IsValid
valid-decoded-by w h None e = tt
valid-decoded-by w h (Some insn) e = record { word = w; in_range = h; decodes = e }

pub valid-decoded : (w : ℕ) → w < 2 ^ 32 → (r : Option Insn) → r ≡ decoded w → IfSome r IsValid
valid-decoded w h r e = valid-decoded-by w h r (sym e)
