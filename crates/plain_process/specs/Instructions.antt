-- The instruction table of RV32I and M: which words are which instruction, with which operands, and what it
-- does.
-- Source: RISC-V unprivileged manual, chapter 2 (RV32I), chapter 13 (M), section 2.2 and 2.3 (formats), and
-- the opcode map of chapter 34. Fields are quotients and remainders by powers of two, results whole numbers
-- modulo 2^32.
--     encoding op      format, opcode, funct3 and funct7      mask_of, match_of      the bits that are fixed, and their values
--     row_of w         the instruction whose fixed bits w has      decoded w      the instruction with its operands
use Rattle.std.specs.Prelude.{◌==◌, ℕ, ◌+◌, ◌-◌, ◌*◌, ◌/◌, ◌%◌, ◌^◌, Bool, ℤ, pos, ◌*ℤ◌, bit_and, bit_or, bit_xor, int_lt, int_div, int_rem, nat_lt, not, List, [], ◌∷◌, find, Option, Some, None, true, false, if◌then◌else◌}
use Rattle.std.specs.Option.{option_map}
use Rattle.std.specs.Int.{w32, cast_signed, cast_unsigned, int_div_euclid}
use Rattle.elf32.specs.OfViews.Numbers.{Address}
use Rattle.plain_process.specs.declared.instruction.Insn.{Insn}
use Rattle.plain_process.specs.declared.instruction.Op.{Op}
use Rattle.plain_process.specs.declared.instruction.Op.TheVariants.{Lui, Auipc, Jal, Jalr, Beq, Bne, Blt, Bge, Bltu, Bgeu, Lb, Lh, Lw, Lbu, Lhu, Sb, Sh, Sw, Addi, Slti, Sltiu, Xori, Ori, Andi, Slli, Srli, Srai, Add, Sub, Sll, Slt, Sltu, Xor, Srl, Sra, Or, And, Mul, Mulh, Mulhsu, Mulhu, Div, Divu, Rem, Remu, Fence, Ecall, Ebreak}
use Rattle.plain_process.specs.declared.regs.Regs.{Regs}
use Rattle.plain_process.specs.Memory.{Memory, load, store}
use Rattle.plain_process.specs.Registers.{reg, with_reg, at_pc, next_pc}

-- which fields an instruction has besides its opcode; a shift's amount stands where rs2 does, and a whole
-- word has none
pub data Format : Type 0 where
  R : Format
  I : Format
  S : Format
  B : Format
  U : Format
  J : Format
  Shift : Format
  Whole : Format

pub record Encoding : Type 0 where
  pub format : Format
  pub opcode : ℕ
  pub funct3 : ℕ
  pub funct7 : ℕ

abbrev pub as_encoding : Format → ℕ → ℕ → ℕ → Encoding
as_encoding format opcode funct3 funct7 =
    record { format = format; opcode = opcode; funct3 = funct3; funct7 = funct7 }

unfoldable pub encoding : Op → Encoding
encoding Lui = as_encoding U 0x37 0 0
encoding Auipc = as_encoding U 0x17 0 0
encoding Jal = as_encoding J 0x6F 0 0
encoding Jalr = as_encoding I 0x67 0 0
encoding Beq = as_encoding B 0x63 0 0
encoding Bne = as_encoding B 0x63 1 0
encoding Blt = as_encoding B 0x63 4 0
encoding Bge = as_encoding B 0x63 5 0
encoding Bltu = as_encoding B 0x63 6 0
encoding Bgeu = as_encoding B 0x63 7 0
encoding Lb = as_encoding I 0x03 0 0
encoding Lh = as_encoding I 0x03 1 0
encoding Lw = as_encoding I 0x03 2 0
encoding Lbu = as_encoding I 0x03 4 0
encoding Lhu = as_encoding I 0x03 5 0
encoding Sb = as_encoding S 0x23 0 0
encoding Sh = as_encoding S 0x23 1 0
encoding Sw = as_encoding S 0x23 2 0
encoding Addi = as_encoding I 0x13 0 0
encoding Slti = as_encoding I 0x13 2 0
encoding Sltiu = as_encoding I 0x13 3 0
encoding Xori = as_encoding I 0x13 4 0
encoding Ori = as_encoding I 0x13 6 0
encoding Andi = as_encoding I 0x13 7 0
encoding Slli = as_encoding Shift 0x13 1 0
encoding Srli = as_encoding Shift 0x13 5 0
encoding Srai = as_encoding Shift 0x13 5 0x20
encoding Add = as_encoding R 0x33 0 0
encoding Sub = as_encoding R 0x33 0 0x20
encoding Sll = as_encoding R 0x33 1 0
encoding Slt = as_encoding R 0x33 2 0
encoding Sltu = as_encoding R 0x33 3 0
encoding Xor = as_encoding R 0x33 4 0
encoding Srl = as_encoding R 0x33 5 0
encoding Sra = as_encoding R 0x33 5 0x20
encoding Or = as_encoding R 0x33 6 0
encoding And = as_encoding R 0x33 7 0
encoding Mul = as_encoding R 0x33 0 1
encoding Mulh = as_encoding R 0x33 1 1
encoding Mulhsu = as_encoding R 0x33 2 1
encoding Mulhu = as_encoding R 0x33 3 1
encoding Div = as_encoding R 0x33 4 1
encoding Divu = as_encoding R 0x33 5 1
encoding Rem = as_encoding R 0x33 6 1
encoding Remu = as_encoding R 0x33 7 1
encoding Fence = as_encoding I 0x0F 0 0
encoding Ecall = as_encoding Whole 0x73 0 0
encoding Ebreak = as_encoding Whole 0x00100073 0 0

abbrev pub fixed_bits : Format → ℕ
fixed_bits U = 0x7F
fixed_bits J = 0x7F
fixed_bits I = 0x707F
fixed_bits S = 0x707F
fixed_bits B = 0x707F
fixed_bits R = 0xFE00707F
fixed_bits Shift = 0xFE00707F
fixed_bits Whole = 0xFFFFFFFF

unfoldable pub mask_of : Op → ℕ
mask_of op = fixed_bits (encoding op).format

unfoldable pub match_of : Op → ℕ
match_of op = (encoding op).opcode + 2 ^ 12 * (encoding op).funct3 + 2 ^ 25 * (encoding op).funct7

abbrev pub rows : List Op
rows =
    Lui ∷ Auipc ∷ Jal ∷ Jalr ∷ Beq ∷ Bne ∷ Blt ∷ Bge ∷ Bltu ∷ Bgeu ∷ Lb ∷ Lh ∷ Lw ∷ Lbu ∷ Lhu ∷ Sb ∷ Sh ∷ Sw
    ∷ Addi ∷ Slti ∷ Sltiu ∷ Xori ∷ Ori ∷ Andi ∷ Slli ∷ Srli ∷ Srai
    ∷ Add ∷ Sub ∷ Sll ∷ Slt ∷ Sltu ∷ Xor ∷ Srl ∷ Sra ∷ Or ∷ And
    ∷ Mul ∷ Mulh ∷ Mulhsu ∷ Mulhu ∷ Div ∷ Divu ∷ Rem ∷ Remu ∷ Fence ∷ Ecall ∷ Ebreak ∷ []

abbrev pub has_match : ℕ → Op → Bool
has_match w op = bit_and w (mask_of op) == match_of op

unfoldable pub row_of : ℕ → Option Op
row_of w = find (has_match w) rows

-- n bits of a word, from bit low on
abbrev pub bits : ℕ → ℕ → ℕ → ℕ
bits low n w = w / 2 ^ low % 2 ^ n

-- a number of n bits, extended to 32 by its highest bit
abbrev pub sign_extended : ℕ → ℕ → ℕ
sign_extended n value = if nat_lt value (2 ^ (n - 1)) then value else value + (2 ^ 32 - 2 ^ n)

unfoldable pub immediate : Format → ℕ → ℕ
immediate R w = 0
immediate I w = sign_extended 12 (bits 20 12 w)
immediate S w = sign_extended 12 (2 ^ 5 * bits 25 7 w + bits 7 5 w)
immediate B w =
    sign_extended 13 (2 ^ 12 * bits 31 1 w + 2 ^ 11 * bits 7 1 w + 2 ^ 5 * bits 25 6 w + 2 * bits 8 4 w)
immediate U w = 2 ^ 12 * bits 12 20 w
immediate J w =
    sign_extended 21 (2 ^ 20 * bits 31 1 w + 2 ^ 12 * bits 12 8 w + 2 ^ 11 * bits 20 1 w + 2 * bits 21 10 w)
immediate Shift w = bits 20 5 w
immediate Whole w = 0

abbrev pub has_rd : Format → Bool
has_rd S = false
has_rd B = false
has_rd Whole = false
has_rd _ = true

abbrev pub has_rs1 : Format → Bool
has_rs1 U = false
has_rs1 J = false
has_rs1 Whole = false
has_rs1 _ = true

abbrev pub has_rs2 : Format → Bool
has_rs2 R = true
has_rs2 S = true
has_rs2 B = true
has_rs2 _ = false

unfoldable pub insn_of : Op → Format → ℕ → Insn
insn_of op format w = record {
  op = op;
  rd = if has_rd format then bits 7 5 w else 0;
  rs1 = if has_rs1 format then bits 15 5 w else 0;
  rs2 = if has_rs2 format then bits 20 5 w else 0;
  imm = cast_signed w32 (immediate format w);
}

unfoldable pub decoded : ℕ → Option Insn
decoded w = option_map (λ op. insn_of op (encoding op).format w) (row_of w)

-- what an instruction does: it goes on, it asks for a call, or it traps with a signal and changes nothing
pub data Effect : Type 0 where
  Next : Regs → Memory → Effect
  Calls : Effect
  Traps : ℕ → Effect

-- signals of traps (`man 7 signal`): SIGILL, SIGTRAP, SIGBUS, SIGSEGV
abbrev pub ILLEGAL : ℕ
ILLEGAL = 4

abbrev pub BREAKPOINT : ℕ
BREAKPOINT = 5

abbrev pub MISALIGNED : ℕ
MISALIGNED = 7

abbrev pub FAULT : ℕ
FAULT = 11

abbrev pub writes : Regs → Memory → ℕ → ℕ → Effect
writes regs memory rd value = Next (at_pc (with_reg regs rd value) (next_pc regs)) memory

abbrev pub goes_to : Regs → Memory → Address → Effect
goes_to regs memory target = if target % 4 == 0 then Next (at_pc regs target) memory else Traps MISALIGNED

abbrev pub jumps : Regs → Memory → ℕ → Address → Effect
jumps regs memory rd target =
    if target % 4 == 0 then Next (at_pc (with_reg regs rd (next_pc regs)) target) memory else Traps MISALIGNED

abbrev pub branches : Regs → Memory → Bool → Address → Effect
branches regs memory taken target =
    if taken then goes_to regs memory target else Next (at_pc regs (next_pc regs)) memory

abbrev pub loads : Regs → Memory → ℕ → (ℕ → ℕ) → Option ℕ → Effect
loads regs memory rd extended None = Traps FAULT
loads regs memory rd extended (Some value) = writes regs memory rd (extended value)

abbrev pub stores : Regs → Option Memory → Effect
stores regs None = Traps FAULT
stores regs (Some memory) = Next (at_pc regs (next_pc regs)) memory

abbrev pub signed : ℕ → ℤ
signed w = cast_signed w32 w

-- an integer modulo 2^32
abbrev pub word : ℤ → ℕ
word z = cast_unsigned w32 z

-- an integer divided by a power of two and rounded down, modulo 2^32
abbrev pub shifted_down : ℤ → ℕ → ℕ
shifted_down z n = word (int_div_euclid z (pos (2 ^ n)))

abbrev pub one_if : Bool → ℕ
one_if b = if b then 1 else 0

abbrev pub same : ℕ → ℕ
same value = value

-- the row of an instruction with destination rd, immediate i, and the values a of rs1 and b of rs2
unfoldable pub effect_by : Op → ℕ → ℕ → ℕ → ℕ → Regs → Memory → Effect
effect_by Lui rd i a b regs memory = writes regs memory rd i
effect_by Auipc rd i a b regs memory = writes regs memory rd ((regs.pc + i) % 2 ^ 32)
effect_by Jal rd i a b regs memory = jumps regs memory rd ((regs.pc + i) % 2 ^ 32)
effect_by Jalr rd i a b regs memory = jumps regs memory rd (2 * ((a + i) % 2 ^ 32 / 2))
effect_by Beq rd i a b regs memory = branches regs memory (a == b) ((regs.pc + i) % 2 ^ 32)
effect_by Bne rd i a b regs memory = branches regs memory (not (a == b)) ((regs.pc + i) % 2 ^ 32)
effect_by Blt rd i a b regs memory =
    branches regs memory (int_lt (signed a) (signed b)) ((regs.pc + i) % 2 ^ 32)
effect_by Bge rd i a b regs memory =
    branches regs memory (not (int_lt (signed a) (signed b))) ((regs.pc + i) % 2 ^ 32)
effect_by Bltu rd i a b regs memory = branches regs memory (nat_lt a b) ((regs.pc + i) % 2 ^ 32)
effect_by Bgeu rd i a b regs memory = branches regs memory (not (nat_lt a b)) ((regs.pc + i) % 2 ^ 32)
effect_by Lb rd i a b regs memory = loads regs memory rd (sign_extended 8) (load memory ((a + i) % 2 ^ 32) 1)
effect_by Lh rd i a b regs memory = loads regs memory rd (sign_extended 16) (load memory ((a + i) % 2 ^ 32) 2)
effect_by Lw rd i a b regs memory = loads regs memory rd same (load memory ((a + i) % 2 ^ 32) 4)
effect_by Lbu rd i a b regs memory = loads regs memory rd same (load memory ((a + i) % 2 ^ 32) 1)
effect_by Lhu rd i a b regs memory = loads regs memory rd same (load memory ((a + i) % 2 ^ 32) 2)
effect_by Sb rd i a b regs memory = stores regs (store memory ((a + i) % 2 ^ 32) 1 b)
effect_by Sh rd i a b regs memory = stores regs (store memory ((a + i) % 2 ^ 32) 2 b)
effect_by Sw rd i a b regs memory = stores regs (store memory ((a + i) % 2 ^ 32) 4 b)
effect_by Addi rd i a b regs memory = writes regs memory rd ((a + i) % 2 ^ 32)
effect_by Slti rd i a b regs memory = writes regs memory rd (one_if (int_lt (signed a) (signed i)))
effect_by Sltiu rd i a b regs memory = writes regs memory rd (one_if (nat_lt a i))
effect_by Xori rd i a b regs memory = writes regs memory rd (bit_xor a i)
effect_by Ori rd i a b regs memory = writes regs memory rd (bit_or a i)
effect_by Andi rd i a b regs memory = writes regs memory rd (bit_and a i)
effect_by Slli rd i a b regs memory = writes regs memory rd (a * 2 ^ i % 2 ^ 32)
effect_by Srli rd i a b regs memory = writes regs memory rd (a / 2 ^ i)
effect_by Srai rd i a b regs memory = writes regs memory rd (shifted_down (signed a) i)
effect_by Add rd i a b regs memory = writes regs memory rd ((a + b) % 2 ^ 32)
effect_by Sub rd i a b regs memory = writes regs memory rd ((a + (2 ^ 32 - b)) % 2 ^ 32)
effect_by Sll rd i a b regs memory = writes regs memory rd (a * 2 ^ (b % 32) % 2 ^ 32)
effect_by Slt rd i a b regs memory = writes regs memory rd (one_if (int_lt (signed a) (signed b)))
effect_by Sltu rd i a b regs memory = writes regs memory rd (one_if (nat_lt a b))
effect_by Xor rd i a b regs memory = writes regs memory rd (bit_xor a b)
effect_by Srl rd i a b regs memory = writes regs memory rd (a / 2 ^ (b % 32))
effect_by Sra rd i a b regs memory = writes regs memory rd (shifted_down (signed a) (b % 32))
effect_by Or rd i a b regs memory = writes regs memory rd (bit_or a b)
effect_by And rd i a b regs memory = writes regs memory rd (bit_and a b)
effect_by Mul rd i a b regs memory = writes regs memory rd (a * b % 2 ^ 32)
effect_by Mulh rd i a b regs memory = writes regs memory rd (shifted_down (signed a *ℤ signed b) 32)
effect_by Mulhsu rd i a b regs memory = writes regs memory rd (shifted_down (signed a *ℤ pos b) 32)
effect_by Mulhu rd i a b regs memory = writes regs memory rd (a * b / 2 ^ 32)
effect_by Div rd i a b regs memory =
    writes regs memory rd (if b == 0 then 2 ^ 32 - 1 else word (int_div (signed a) (signed b)))
effect_by Divu rd i a b regs memory = writes regs memory rd (if b == 0 then 2 ^ 32 - 1 else a / b)
effect_by Rem rd i a b regs memory =
    writes regs memory rd (if b == 0 then a else word (int_rem (signed a) (signed b)))
effect_by Remu rd i a b regs memory = writes regs memory rd (if b == 0 then a else a % b)
effect_by Fence rd i a b regs memory = Next (at_pc regs (next_pc regs)) memory
effect_by Ecall rd i a b regs memory = Calls
effect_by Ebreak rd i a b regs memory = Traps BREAKPOINT

unfoldable pub effect : Insn → Regs → Memory → Effect
effect insn regs memory =
    effect_by insn.op insn.rd (word insn.imm) (reg regs insn.rs1) (reg regs insn.rs2) regs memory
