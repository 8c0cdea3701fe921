-- The numbers of statuses, with which the program ends.
use Rattle.std.specs.Prelude.{ℕ}
use Rattle.endings.specs.declared.status.Status.{Status}
use Rattle.endings.specs.declared.status.Status.TheVariants.{Done, Usage, InputFault, Missing, BadElf, SinkFault, DiskFault, NoSet, Damaged, Budget, Stuck, Memory, TooBig}

abbrev pub number_of : Status → ℕ
number_of Done = 0
number_of Usage = 10
number_of InputFault = 11
number_of Missing = 12
number_of BadElf = 13
number_of SinkFault = 14
number_of DiskFault = 15
number_of NoSet = 16
number_of Damaged = 17
number_of Budget = 18
number_of Stuck = 19
number_of Memory = 20
number_of TooBig = 21
