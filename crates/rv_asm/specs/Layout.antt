-- Where the lines of a program stand in its file: each behind the one before it, the first behind the
-- headers. Lines count from 0 here. A place past 2^31 - 1 stands as that one; the file of such a text would
-- be far too large.
--     size_at place statement       how many bytes a statement has at this place
--     place_of lines n              the place of the n-th line; behind the last it is the end of the file
--     labels_before lines n         the labels of the first n lines, each with its place and its line
--     label_in labels name          the first of this name
use Rattle.std.specs.Prelude.{ℕ, ◌+◌, ◌-◌, ◌%◌, ◌^◌, min, List, [], ◌∷◌, ◌++◌, length, find, Option, Some, None, slice_index_or, zero, suc}
use Rattle.std.specs.Str.{bytes_eq}
use Rattle.asm_parts.specs.Texts.{Text}
use Rattle.asm_lines.specs.Statements.{Statement, nothing, label, one, aimed, constant, address, word, bytes, align}

-- the headers of the file, which is loaded whole at this address; its greatest size
abbrev pub HEADERS : ℕ
HEADERS = 84

abbrev pub BASE : ℕ
BASE = 0x10000

abbrev pub LIMIT : ℕ
LIMIT = 4194304

abbrev pub FAR : ℕ
FAR = 0x7FFFFFFF

-- what each line says, `None` where it is none of the language
abbrev pub Lines : Type 0
Lines = List (Option Statement)

unfoldable pub size_at : ℕ → Statement → ℕ
size_at place nothing = 0
size_at place (label name) = 0
size_at place (one insn) = 4
size_at place (aimed insn name) = 4
size_at place (constant rd n) = 8
size_at place (address rd name) = 8
size_at place (word n) = 4
size_at place (bytes bs) = length bs
size_at place align = (2 ^ 32 - place) % 4

abbrev pub placed_after : ℕ → Option Statement → ℕ
placed_after place None = place
placed_after place (Some statement) = min (place + size_at place statement) FAR

abbrev pub line_at : Lines → ℕ → Option Statement
line_at lines n = slice_index_or lines n None

unfoldable pub place_of : Lines → ℕ → ℕ
place_of lines zero = HEADERS
place_of lines (suc n) = placed_after (place_of lines n) (line_at lines n)

abbrev pub end_of : Lines → ℕ
end_of lines = place_of lines (length lines)

pub record Label : Type 0 where
  pub name : Text
  pub place : ℕ
  pub line : ℕ

abbrev pub labels_at : ℕ → ℕ → Option Statement → List Label
labels_at place line (Some (label name)) = record { name = name; place = place; line = line } ∷ []
labels_at place line _ = []

unfoldable pub labels_before : Lines → ℕ → List Label
labels_before lines zero = []
labels_before lines (suc n) = labels_before lines n ++ labels_at (place_of lines n) n (line_at lines n)

abbrev pub labels_of : Lines → List Label
labels_of lines = labels_before lines (length lines)

unfoldable pub label_in : List Label → Text → Option Label
label_in labels name = find (λ l. bytes_eq l.name name) labels
