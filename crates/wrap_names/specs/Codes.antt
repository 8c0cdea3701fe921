-- How the value is stored that only clauses read.
--     kernel_code      of a plain kernel part
use Rattle.std.specs.Coded.{Coded}
use Rattle.plain_machine.specs.declared.kernel.PlainKernel.{PlainKernel}
use Rattle.plain_machine.specs.contracts.kernel.PlainKernel as kernel

abbrev pub kernel_code : Coded PlainKernel
kernel_code = kernel.the_row.coded
