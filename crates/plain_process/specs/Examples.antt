-- Worked examples of the definitions, each value worked out by hand from the manual that its definition
-- restates.
use Rattle.std.specs.Prelude.{◌≡◌, ℕ, ◌-◌, ◌^◌, [], ◌∷◌, codes, ◌++◌, Some, None, pos, negsuc}
use Rattle.call_table.specs.OfSysAbi.declared.reply.Reply.TheVariants.{Value}
use Rattle.plain_process.specs.declared.instruction.Insn.{Insn}
use Rattle.plain_process.specs.declared.instruction.Op.{Op}
use Rattle.plain_process.specs.declared.instruction.Op.TheVariants.{Addi, Auipc, Ecall, Jal, Lw, Sw, Beq, Mul, Mulh, Mulhsu, Mulhu, Div, Rem, Sra, Slt}
use Rattle.plain_process.specs.declared.regs.Regs.{Regs}
use Rattle.plain_process.specs.Memory.{Memory}
use Rattle.plain_process.specs.Instructions.{decoded, effect_by, writes}
use Rattle.plain_process.specs.Put.{word_of, error}
use Rattle.plain_process.specs.Start.{start_sp, argument_places}

abbrev pub insn : Op → ℕ → ℕ → ℕ → ℕ → Insn
insn op rd rs1 rs2 immediate = record { op = op; rd = rd; rs1 = rs1; rs2 = rs2; imm = pos immediate }

-- a program that writes six bytes to the console and ends, and words beside it
pub record AreDecoded : Type 0 where
  pub li_a0_1 : decoded 0x00100513 ≡ Some (insn Addi 10 0 0 1)
  pub auipc_a1_0 : decoded 0x00000597 ≡ Some (insn Auipc 11 0 0 0)
  pub addi_a1_a1_32 : decoded 0x02058593 ≡ Some (insn Addi 11 11 0 32)
  pub li_a2_6 : decoded 0x00600613 ≡ Some (insn Addi 12 0 0 6)
  pub li_a7_64 : decoded 0x04000893 ≡ Some (insn Addi 17 0 0 64)
  pub ecall : decoded 0x00000073 ≡ Some (insn Ecall 0 0 0 0)
  pub div_a0_a1_a2 : decoded 0x02C5C533 ≡ Some (insn Div 10 11 12 0)
  pub rem_a0_a1_a2 : decoded 0x02C5E533 ≡ Some (insn Rem 10 11 12 0)
  pub addi_sp_sp_minus_16 : decoded 0xFF010113 ≡ Some (record { op = Addi; rd = 2; rs1 = 2; rs2 = 0; imm = negsuc 15 })
  pub lw_a0_8_sp : decoded 0x00812503 ≡ Some (insn Lw 10 2 0 8)
  pub sw_a0_8_sp : decoded 0x00A12423 ≡ Some (insn Sw 0 2 10 8)
  pub beq_a0_a1_minus_4 : decoded 0xFEB50EE3 ≡ Some (record { op = Beq; rd = 0; rs1 = 10; rs2 = 11; imm = negsuc 3 })
  pub jal_ra_2048 : decoded 0x001000EF ≡ Some (insn Jal 1 0 0 2048)
  pub zeros : decoded 0 ≡ None

-- -7 is 2^32 - 7. Quotients round towards zero, and a remainder has the dividend's sign (chapter 13)
pub record AreQuotients : Type 0 where
  pub quotient : (regs : Regs) (memory : Memory) → effect_by Div 10 0 (2 ^ 32 - 7) 2 regs memory ≡ writes regs memory 10 (2 ^ 32 - 3)
  pub remainder : (regs : Regs) (memory : Memory) → effect_by Rem 10 0 (2 ^ 32 - 7) 2 regs memory ≡ writes regs memory 10 (2 ^ 32 - 1)
  pub by_zero : (regs : Regs) (memory : Memory) → effect_by Div 10 0 7 0 regs memory ≡ writes regs memory 10 (2 ^ 32 - 1)
  pub rest_by_zero : (regs : Regs) (memory : Memory) → effect_by Rem 10 0 7 0 regs memory ≡ writes regs memory 10 7
  pub overflow : (regs : Regs) (memory : Memory) → effect_by Div 10 0 (2 ^ 31) (2 ^ 32 - 1) regs memory ≡ writes regs memory 10 (2 ^ 31)
  pub rest_of_overflow : (regs : Regs) (memory : Memory) → effect_by Rem 10 0 (2 ^ 31) (2 ^ 32 - 1) regs memory ≡ writes regs memory 10 0

-- -1 times -1, and 2^32 - 1 times itself: their upper halves differ by the signs of the factors (chapter 13)
pub record AreProducts : Type 0 where
  pub low : (regs : Regs) (memory : Memory) → effect_by Mul 10 0 (2 ^ 32 - 1) (2 ^ 32 - 1) regs memory ≡ writes regs memory 10 1
  pub signed : (regs : Regs) (memory : Memory) → effect_by Mulh 10 0 (2 ^ 32 - 1) (2 ^ 32 - 1) regs memory ≡ writes regs memory 10 0
  pub mixed : (regs : Regs) (memory : Memory) → effect_by Mulhsu 10 0 (2 ^ 32 - 1) (2 ^ 32 - 1) regs memory ≡ writes regs memory 10 (2 ^ 32 - 1)
  pub unsigned : (regs : Regs) (memory : Memory) → effect_by Mulhu 10 0 (2 ^ 32 - 1) (2 ^ 32 - 1) regs memory ≡ writes regs memory 10 (2 ^ 32 - 2)
  pub shift : (regs : Regs) (memory : Memory) → effect_by Sra 10 0 (2 ^ 32 - 7) 1 regs memory ≡ writes regs memory 10 (2 ^ 32 - 4)
  pub less : (regs : Regs) (memory : Memory) → effect_by Slt 10 0 (2 ^ 32 - 1) 0 regs memory ≡ writes regs memory 10 1

-- one argument, hello.elf: its string at the end of the stack, and six words below it at a multiple of 16
pub record IsStarted : Type 0 where
  pub stack : start_sp (codes "hello.elf" ++ 0 ∷ []) ≡ 0x7FFFFFD0
  pub argument : argument_places (codes "hello.elf" ++ 0 ∷ []) ≡ 0x7FFFFFF6 ∷ []

-- EBADF is 9 and ENOSYS 38 (`man 3 errno`), answered as their negatives
pub record AreAnswers : Type 0 where
  pub value : word_of (Value 6) ≡ 6
  pub bad_descriptor : word_of (error 9) ≡ 0xFFFFFFF7
  pub no_such_call : word_of (error 38) ≡ 0xFFFFFFDA
