-- The bytes of each line of a program, as the machine's table spells its instructions.
--     has_word insn                  its operands fit: the word that they fill in is the instruction
--     upper, lower                   the two parts of a word that lui or auipc and addi put together
--     piece labels end n place line  the bytes of the n-th line; `None` where it breaks a rule
--     piece_of lines n               the same, of a text's lines
use Rattle.std.specs.Prelude.{◌≡◌, ◌<◌, ℕ, ◌+◌, ◌-◌, ◌*◌, ◌/◌, ◌%◌, ◌^◌, ◌==◌, Bool, true, false, not, ◌&&◌, ◌||◌, nat_lt, nat_le, if◌then◌else◌, List, [], ◌++◌, codes, Option, Some, None, pos}
use Rattle.std.specs.Int.{w32, to_le_bytes}
use Rattle.std.specs.Prelude.{replicate}
use Rattle.std.specs.Ordering.{int_eq}
use Rattle.std.specs.Str.{bytes_eq}
use Rattle.plain_process.specs.declared.instruction.Insn.{Insn}
use Rattle.plain_process.specs.declared.instruction.Op.TheVariants.{Lui, Auipc, Addi}
use Rattle.plain_process.specs.Instructions.{decoded, match_of, signed}
use Rattle.rv_words.specs.Words.{word_of}
use Rattle.asm_parts.specs.Texts.{Text}
use Rattle.asm_lines.specs.Lines.{insn}
use Rattle.asm_lines.specs.Statements.{Statement, nothing, label, one, aimed, constant, address, word, bytes, align}
use Rattle.rv_asm.specs.Layout.{Lines, Label, LIMIT, size_at, placed_after, place_of, line_at, end_of, labels_of, label_in}

-- the same row of the table, which its fixed bits tell, and the same operands
abbrev pub same_insn : Insn → Insn → Bool
same_insn a b =
    (match_of a.op == match_of b.op) && (a.rd == b.rd) && (a.rs1 == b.rs1) && (a.rs2 == b.rs2)
    && int_eq a.imm b.imm

abbrev pub is_read_as : Insn → Option Insn → Bool
is_read_as i None = false
is_read_as i (Some found) = same_insn found i

unfoldable pub has_word : Insn → Bool
has_word i = nat_lt (word_of i) (2 ^ 32) && is_read_as i (decoded (word_of i))

-- a law: such a word is the instruction, as the machine reads it
abbrev pub WordsDecode : Type 0
WordsDecode = (i : Insn) → has_word i ≡ true → decoded (word_of i) ≡ Some i

-- how far a place is from another, modulo 2^32
abbrev pub distance : ℕ → ℕ → ℕ
distance from to = (to + (2 ^ 32 - from)) % 2 ^ 32

unfoldable pub with_immediate : Insn → ℕ → Insn
with_immediate i n = record i { imm = signed n }

-- a multiple of 2^12 near a word, and what then is missing, from -2^11 to 2^11 - 1
abbrev pub upper : ℕ → ℕ
upper n = (n + 2 ^ 11) % 2 ^ 32 / 2 ^ 12 * 2 ^ 12

abbrev pub lower : ℕ → ℕ
lower n = distance (upper n) n

-- a law: the two parts add up to the word
abbrev pub PartsAdd : Type 0
PartsAdd = (n : ℕ) → n < 2 ^ 32 → (upper n + lower n) % 2 ^ 32 ≡ n

-- a law: each of the two parts has a word
abbrev pub PartsFit : Type 0
PartsFit = (rd n : ℕ) → rd < 32 → n < 2 ^ 32 →
    (has_word (with_immediate (insn Lui rd 0 0 (pos 0)) (upper n)) ≡ true)
    × (has_word (with_immediate (insn Auipc rd 0 0 (pos 0)) (upper n)) ≡ true)
    × (has_word (with_immediate (insn Addi rd rd 0 (pos 0)) (lower n)) ≡ true)

abbrev pub is_aligned : ℕ → Bool
is_aligned place = place % 4 == 0

abbrev pub bytes_of : ℕ → List ℕ
bytes_of w = to_le_bytes w32 w

-- these bytes, where the rule holds
abbrev pub given : Bool → List ℕ → Option (List ℕ)
given holds bs = if holds then Some bs else None

abbrev pub word_at : ℕ → ℕ → Option (List ℕ)
word_at place w = given (is_aligned place) (bytes_of w)

unfoldable pub insn_at : ℕ → Insn → Option (List ℕ)
insn_at place i = given (is_aligned place && has_word i) (bytes_of (word_of i))

unfoldable pub pair_at : ℕ → Insn → Insn → Option (List ℕ)
pair_at place i j =
    given (is_aligned place && has_word i && has_word j) (bytes_of (word_of i) ++ bytes_of (word_of j))

-- lui or auipc, then addi
abbrev pub two_parts : ℕ → Insn → ℕ → ℕ → Option (List ℕ)
two_parts place first rd n =
    pair_at place (with_immediate first (upper n)) (with_immediate (insn Addi rd rd 0 (pos 0)) (lower n))

-- a jump or a branch to a label
abbrev pub aimed_at : ℕ → Insn → Option Label → Option (List ℕ)
aimed_at place i None = None
aimed_at place i (Some l) = insn_at place (with_immediate i (distance place l.place))

abbrev pub address_at : ℕ → ℕ → Option Label → Option (List ℕ)
address_at place rd None = None
address_at place rd (Some l) = two_parts place (insn Auipc rd 0 0 (pos 0)) rd (distance place l.place)

abbrev pub START : Text
START = codes "_start"

-- an instruction may begin at this place of a file with this end, in a page with a byte of it
abbrev pub is_entry : ℕ → ℕ → Bool
is_entry end place = is_aligned place && (nat_lt place end || not (place % 4096 == 0))

-- the name is new in its line, and the program's start is where an instruction may begin
abbrev pub label_at : Option Label → ℕ → ℕ → ℕ → Text → Option (List ℕ)
label_at None end n place name = None
label_at (Some first) end n place name =
    given ((first.line == n) && (not (bytes_eq name START) || is_entry end place)) []

unfoldable pub statement_at : List Label → ℕ → ℕ → ℕ → Statement → Option (List ℕ)
statement_at labels end n place nothing = Some []
statement_at labels end n place (label name) = label_at (label_in labels name) end n place name
statement_at labels end n place (one i) = insn_at place i
statement_at labels end n place (aimed i name) = aimed_at place i (label_in labels name)
statement_at labels end n place (constant rd value) = two_parts place (insn Lui rd 0 0 (pos 0)) rd value
statement_at labels end n place (address rd name) = address_at place rd (label_in labels name)
statement_at labels end n place (word w) = word_at place w
statement_at labels end n place (bytes bs) = Some bs
statement_at labels end n place align = Some (replicate (size_at place align) 0)

-- a line is one of the language, ends within the limit, and keeps its statement's rules
unfoldable pub piece : List Label → ℕ → ℕ → ℕ → Option Statement → Option (List ℕ)
piece labels end n place None = None
piece labels end n place (Some statement) =
    if nat_le (placed_after place (Some statement)) LIMIT then statement_at labels end n place statement
    else None

abbrev pub piece_of : Lines → ℕ → Option (List ℕ)
piece_of lines n = piece (labels_of lines) (end_of lines) n (place_of lines n) (line_at lines n)
