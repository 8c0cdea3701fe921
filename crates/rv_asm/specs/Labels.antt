-- What the assembler's own values stand for.
use Rattle.std.specs.Prelude.{◌≡◌, ℕ, ◌+◌, ◌≤◌, Bool, List, [], ◌++◌, length, map, Option, is_some, unwrap_or, option_map, Result, IfOk}
use Rattle.asm_lines.specs.declared.statement.Statement.{Statement}
use Rattle.asm_lines.specs.Statements.{meant}
use Rattle.rv_asm.specs.declared.labels.Label.{Label as Found}
use Rattle.rv_asm.specs.Layout.{Lines, Label, HEADERS, LIMIT}
use Rattle.rv_asm.specs.Files.{AreGood, body_of}

abbrev pub lines_in : List (Option Statement) → Lines
lines_in lines = map (option_map meant) lines

abbrev pub label_seen : Found → Label
label_seen label = record { name = label.name.now; place = label.place; line = label.line }

abbrev pub labels_in : List Found → List Label
labels_in labels = map label_seen labels

-- bytes were put behind others, where a line has some, and it is told whether
pub record Puts (good : Bool) (old new : List ℕ) (bytes : Option (List ℕ)) : Type 0 where
  pub told : good ≡ is_some bytes
  pub put : new ≡ old ++ unwrap_or bytes []

abbrev pub Adds : {E : Type 0} → Result Bool E → List ℕ → List ℕ → Option (List ℕ) → Type 0
Adds result old new bytes = IfOk result (λ good. Puts good old new bytes)

-- each line keeps the rules, and these are the bytes behind the headers
pub record IsBody (lines : Lines) (body : List ℕ) : Type 0 where
  pub good : AreGood lines (length lines)
  pub bytes : body ≡ body_of lines
  pub size : HEADERS + length body ≤ LIMIT
