-- What a line of a program's text says, in the words of the RISC-V assembly programmer's handbook. Outside
-- comments and quotes spaces stand at a line's start, behind its word and behind commas alone. A line is
-- empty, a comment from `#` on, a label with its colon, or a word, and behind a space its operands. `None`
-- stands for a line that is none.
--
--     statement_of line            what a line says
--     statements_of text           what each line of a text says
--     command text rest            what a word says with this rest behind its space, or with none
--     instruction op operands rest     the same, where the word is the name of an instruction
--     formed form rest                 the same, where it is one of these:
--
--     li rd, n                     two instructions, for each n of 32 bits, signed or unsigned
--     la rd, label                 two instructions
--     mv rd, rs1                   addi rd, rs1, 0
--     j label, call label          jal x0, label; jal ra, label
--     ret, nop                     jalr x0, 0(ra); addi x0, x0, 0
--     .word n, .byte n             4 bytes, 1 byte
--     .zero n                      n zeros, at most 1,048,576
--     .ascii "text"                the bytes that it spells
--     .align                       zeros up to a multiple of 4
use Rattle.std.specs.Prelude.{ℕ, ℤ, pos, ◌==◌, if◌then◌else◌, List, [], ◌∷◌, map, find, codes, Option, Some, None, option_map, option_and_then}
use Rattle.std.specs.Prelude.{replicate}
use Rattle.std.specs.Str.{bytes_eq}
use Rattle.plain_process.specs.declared.instruction.Insn.{Insn}
use Rattle.plain_process.specs.declared.instruction.Op.{Op}
use Rattle.plain_process.specs.declared.instruction.Op.TheVariants as op
use Rattle.asm_lines.specs.declared.form.Form.{Form}
use Rattle.asm_lines.specs.declared.form.Form.TheVariants.{Li, La, Mv, J, Call, Ret, Nop, Word, Byte, Zero, Ascii, Align}
use Rattle.asm_lines.specs.declared.mnemonic.Operands.{Operands}
use Rattle.asm_lines.specs.declared.mnemonic.Operands.TheVariants.{Registers, Immediate, Load, Store, Branch, Upper, Jump, Nothing}
use Rattle.asm_parts.specs.Texts.{Text, SPACE, HASH, COLON, lines_of, cut, without_spaces, without_last, name_in}
use Rattle.asm_parts.specs.Numbers.{signed_number, upper_number, word_number, byte_number, zeros_number}
use Rattle.asm_parts.specs.Registers.{register_of}
use Rattle.asm_lines.specs.Mnemonics.{op_named, operands_of}
use Rattle.asm_parts.specs.Operands.{operands, one as one_operand, two, three, map_2, map_3, based}
use Rattle.asm_parts.specs.Quotes.{quoted}
use Rattle.asm_lines.specs.Statements.{Statement, nothing, label, one, aimed, constant, address, word, bytes, align}

abbrev pub insn : Op → ℕ → ℕ → ℕ → ℤ → Insn
insn op rd rs1 rs2 imm = record { op = op; rd = rd; rs1 = rs1; rs2 = rs2; imm = imm }

-- `fence` alone is a fence of everything with everything
abbrev pub bare : Op → Insn
bare op.Fence = insn op.Fence 0 0 0 (pos 255)
bare o = insn o 0 0 0 (pos 0)

-- nothing stands behind the word
abbrev pub alone : Statement → Option Text → Option Statement
alone statement None = Some statement
alone statement (Some rest) = None

unfoldable pub instruction : Op → Operands → Option Text → Option Statement
instruction op Registers rest = option_and_then (λ t.
    map_3 (λ rd rs1 rs2. one (insn op rd rs1 rs2 (pos 0)))
    (register_of t.0) (register_of t.1) (register_of t.2)) (three (operands rest))
instruction op Immediate rest = option_and_then (λ t.
    map_3 (λ rd rs1 n. one (insn op rd rs1 0 n))
    (register_of t.0) (register_of t.1) (signed_number t.2)) (three (operands rest))
instruction op Load rest = option_and_then (λ t.
    map_2 (λ rd at. one (insn op rd at.1 0 at.0)) (register_of t.0) (based t.1)) (two (operands rest))
instruction op Store rest = option_and_then (λ t.
    map_2 (λ rs2 at. one (insn op 0 at.1 rs2 at.0)) (register_of t.0) (based t.1)) (two (operands rest))
instruction op Branch rest = option_and_then (λ t.
    map_3 (λ rs1 rs2 name. aimed (insn op 0 rs1 rs2 (pos 0)) name)
    (register_of t.0) (register_of t.1) (name_in t.2)) (three (operands rest))
instruction op Upper rest = option_and_then (λ t.
    map_2 (λ rd n. one (insn op rd 0 0 n)) (register_of t.0) (upper_number t.1)) (two (operands rest))
instruction op Jump rest = option_and_then (λ t.
    map_2 (λ rd name. aimed (insn op rd 0 0 (pos 0)) name) (register_of t.0) (name_in t.1))
    (two (operands rest))
instruction op Nothing rest = alone (one (bare op)) rest

-- the names of pseudo-instructions and directives
unfoldable pub form_name : Form → Text
form_name Li = codes "li"
form_name La = codes "la"
form_name Mv = codes "mv"
form_name J = codes "j"
form_name Call = codes "call"
form_name Ret = codes "ret"
form_name Nop = codes "nop"
form_name Word = codes ".word"
form_name Byte = codes ".byte"
form_name Zero = codes ".zero"
form_name Ascii = codes ".ascii"
form_name Align = codes ".align"

abbrev pub forms : List Form
forms = Li ∷ La ∷ Mv ∷ J ∷ Call ∷ Ret ∷ Nop ∷ Word ∷ Byte ∷ Zero ∷ Ascii ∷ Align ∷ []

unfoldable pub form_named : Text → Option Form
form_named text = find (λ form. bytes_eq (form_name form) text) forms

-- a jump to a label, with the address behind it in a register
abbrev pub jump : ℕ → Option Text → Option Statement
jump rd rest = option_and_then (λ a.
    option_map (λ name. aimed (insn op.Jal rd 0 0 (pos 0)) name) (name_in a)) (one_operand (operands rest))

unfoldable pub formed : Form → Option Text → Option Statement
formed Li rest = option_and_then (λ t.
    map_2 constant (register_of t.0) (word_number t.1)) (two (operands rest))
formed La rest = option_and_then (λ t.
    map_2 address (register_of t.0) (name_in t.1)) (two (operands rest))
formed Mv rest = option_and_then (λ t.
    map_2 (λ rd rs1. one (insn op.Addi rd rs1 0 (pos 0))) (register_of t.0) (register_of t.1))
    (two (operands rest))
formed J rest = jump 0 rest
formed Call rest = jump 1 rest
formed Ret rest = alone (one (insn op.Jalr 0 1 0 (pos 0))) rest
formed Nop rest = alone (one (insn op.Addi 0 0 0 (pos 0))) rest
formed Word rest = option_and_then (λ a. option_map word (word_number a)) (one_operand (operands rest))
formed Byte rest = option_and_then (λ a.
    option_map (λ n. bytes (n ∷ [])) (byte_number a)) (one_operand (operands rest))
formed Zero rest = option_and_then (λ a.
    option_map (λ n. bytes (replicate n 0)) (zeros_number a)) (one_operand (operands rest))
formed Ascii rest = option_and_then (λ text. option_map bytes (quoted (without_spaces text))) rest
formed Align rest = alone align rest

abbrev pub command_by : Option Form → Text → Option Text → Option Statement
command_by (Some form) text rest = formed form rest
command_by None text rest = option_and_then (λ op. instruction op (operands_of op) rest) (op_named text)

unfoldable pub command : Text → Option Text → Option Statement
command text rest = command_by (form_named text) text rest

abbrev pub commanded : Text → Option (Text × Text) → Option Statement
commanded text (Some parts) = command parts.0 (Some parts.1)
commanded text None = command text None

abbrev pub labelled_or_commanded : Text → Option Text → Option Statement
labelled_or_commanded text (Some name) = option_map label (name_in name)
labelled_or_commanded text None = commanded text (cut SPACE text)

-- what a line says that begins without a space
abbrev pub said : Text → Option Statement
said [] = Some nothing
said (b ∷ rest) =
    if b == HASH then Some nothing
    else labelled_or_commanded (b ∷ rest) (without_last COLON (b ∷ rest))

unfoldable pub statement_of : Text → Option Statement
statement_of line = said (without_spaces line)

unfoldable pub statements_of : Text → List (Option Statement)
statements_of text = map statement_of (lines_of text)
