-- How large the fixed fields of a row are.
--     opcode_fits, funct3_fits, funct7_fits      of the clauses of `encoding`
use Rattle.std.proofs.Common.{◌<◌, ◌^◌, arith}
use Rattle.plain_process.specs.declared.instruction.Op.{Op}
use Rattle.plain_process.specs.declared.instruction.Op.TheVariants.{Lui}
use Rattle.plain_process.specs.Instructions.{encoding}

pub opcode_fits : (op : Op) → (encoding op).opcode < 2 ^ 24
unfolding encoding
opcode_fits Lui = omega arith
opcode_fits _ = omega arith

pub funct3_fits : (op : Op) → (encoding op).funct3 < 8
unfolding encoding
funct3_fits Lui = omega arith
funct3_fits _ = omega arith

pub funct7_fits : (op : Op) → (encoding op).funct7 < 2 ^ 7
unfolding encoding
funct7_fits Lui = omega arith
funct7_fits _ = omega arith
