-- The mnemonics of RV32IM: the names of the instructions in lower case, and which operands each has, in the
-- order in which they are written (RISC-V unprivileged manual, chapter 35; RISC-V assembly programmer's
-- handbook).
--     mnemonic op        the name of an instruction
--     op_named word      the instruction of this name
--     operands_of op     its operands
use Rattle.std.specs.Prelude.{Option, find, codes}
use Rattle.std.specs.Str.{bytes_eq}
use Rattle.plain_process.specs.declared.instruction.Op.{Op}
use Rattle.plain_process.specs.declared.instruction.Op.TheVariants.{Lui, Auipc, Jal, Jalr, Beq, Bne, Blt, Bge, Bltu, Bgeu, Lb, Lh, Lw, Lbu, Lhu, Sb, Sh, Sw, Addi, Slti, Sltiu, Xori, Ori, Andi, Slli, Srli, Srai, Add, Sub, Sll, Slt, Sltu, Xor, Srl, Sra, Or, And, Mul, Mulh, Mulhsu, Mulhu, Div, Divu, Rem, Remu, Fence, Ecall, Ebreak}
use Rattle.plain_process.specs.Instructions.{rows}
use Rattle.asm_lines.specs.declared.mnemonic.Operands.{Operands}
use Rattle.asm_lines.specs.declared.mnemonic.Operands.TheVariants.{Registers, Immediate, Load, Store, Branch, Upper, Jump, Nothing}
use Rattle.asm_parts.specs.Texts.{Text}

unfoldable pub mnemonic : Op → Text
mnemonic Lui = codes "lui"
mnemonic Auipc = codes "auipc"
mnemonic Jal = codes "jal"
mnemonic Jalr = codes "jalr"
mnemonic Beq = codes "beq"
mnemonic Bne = codes "bne"
mnemonic Blt = codes "blt"
mnemonic Bge = codes "bge"
mnemonic Bltu = codes "bltu"
mnemonic Bgeu = codes "bgeu"
mnemonic Lb = codes "lb"
mnemonic Lh = codes "lh"
mnemonic Lw = codes "lw"
mnemonic Lbu = codes "lbu"
mnemonic Lhu = codes "lhu"
mnemonic Sb = codes "sb"
mnemonic Sh = codes "sh"
mnemonic Sw = codes "sw"
mnemonic Addi = codes "addi"
mnemonic Slti = codes "slti"
mnemonic Sltiu = codes "sltiu"
mnemonic Xori = codes "xori"
mnemonic Ori = codes "ori"
mnemonic Andi = codes "andi"
mnemonic Slli = codes "slli"
mnemonic Srli = codes "srli"
mnemonic Srai = codes "srai"
mnemonic Add = codes "add"
mnemonic Sub = codes "sub"
mnemonic Sll = codes "sll"
mnemonic Slt = codes "slt"
mnemonic Sltu = codes "sltu"
mnemonic Xor = codes "xor"
mnemonic Srl = codes "srl"
mnemonic Sra = codes "sra"
mnemonic Or = codes "or"
mnemonic And = codes "and"
mnemonic Mul = codes "mul"
mnemonic Mulh = codes "mulh"
mnemonic Mulhsu = codes "mulhsu"
mnemonic Mulhu = codes "mulhu"
mnemonic Div = codes "div"
mnemonic Divu = codes "divu"
mnemonic Rem = codes "rem"
mnemonic Remu = codes "remu"
mnemonic Fence = codes "fence"
mnemonic Ecall = codes "ecall"
mnemonic Ebreak = codes "ebreak"

unfoldable pub op_named : Text → Option Op
op_named word = find (λ op. bytes_eq (mnemonic op) word) rows

unfoldable pub operands_of : Op → Operands
operands_of Lui = Upper
operands_of Auipc = Upper
operands_of Jal = Jump
operands_of Jalr = Load
operands_of Beq = Branch
operands_of Bne = Branch
operands_of Blt = Branch
operands_of Bge = Branch
operands_of Bltu = Branch
operands_of Bgeu = Branch
operands_of Lb = Load
operands_of Lh = Load
operands_of Lw = Load
operands_of Lbu = Load
operands_of Lhu = Load
operands_of Sb = Store
operands_of Sh = Store
operands_of Sw = Store
operands_of Addi = Immediate
operands_of Slti = Immediate
operands_of Sltiu = Immediate
operands_of Xori = Immediate
operands_of Ori = Immediate
operands_of Andi = Immediate
operands_of Slli = Immediate
operands_of Srli = Immediate
operands_of Srai = Immediate
operands_of Add = Registers
operands_of Sub = Registers
operands_of Sll = Registers
operands_of Slt = Registers
operands_of Sltu = Registers
operands_of Xor = Registers
operands_of Srl = Registers
operands_of Sra = Registers
operands_of Or = Registers
operands_of And = Registers
operands_of Mul = Registers
operands_of Mulh = Registers
operands_of Mulhsu = Registers
operands_of Mulhu = Registers
operands_of Div = Registers
operands_of Divu = Registers
operands_of Rem = Registers
operands_of Remu = Registers
operands_of Fence = Nothing
operands_of Ecall = Nothing
operands_of Ebreak = Nothing
