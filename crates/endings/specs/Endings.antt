-- How a call comes to its end: with which status, and with which last line on the log.
--     status_of ending, line_of ending     its status and its last line
--     Concludes ending status log          the status that it gets when the line has been put
use Rattle.std.specs.Prelude.{◌≡◌, ℕ, ◌⊎◌, List, []}
use Rattle.edge_io.specs.Sunk.{Sunk, Took, TookFront}
use Rattle.endings.specs.declared.status.Status.{Status}
use Rattle.endings.specs.declared.status.Status.TheVariants.{Done as IsDone, Usage as IsUsage, InputFault as IsInputFault, Missing as IsMissing, BadElf as IsBadElf, TooBig as IsTooBig, SinkFault as IsSinkFault, DiskFault as IsDiskFault, NoSet as IsNoSet, Damaged as IsDamaged, Budget as IsBudget, Stuck as IsStuck, Memory as IsMemory}
use Rattle.endings.specs.declared.ending.Ending.{Ending}
use Rattle.endings.specs.declared.ending.Ending.TheVariants.{Done, Usage, InputFault, Missing, BadElf, TooBig, SinkFault, DiskFault, NoSet, Damaged, Budget, Stuck, Memory}
use Rattle.endings.specs.Log.{done_line, usage_line, input_fault_line, missing_line, bad_program_line, too_big_line, disk_fault_line, no_set_line, damaged_line, budget_line, stuck_line, memory_line}

abbrev pub status_of : Ending → Status
status_of Done = IsDone
status_of Usage = IsUsage
status_of (InputFault name) = IsInputFault
status_of (Missing name) = IsMissing
status_of (BadElf name fault) = IsBadElf
status_of TooBig = IsTooBig
status_of SinkFault = IsSinkFault
status_of DiskFault = IsDiskFault
status_of NoSet = IsNoSet
status_of (Damaged slot damage) = IsDamaged
status_of (Budget records) = IsBudget
status_of Stuck = IsStuck
status_of Memory = IsMemory

abbrev pub line_of : Ending → List ℕ
line_of Done = done_line
line_of Usage = usage_line
line_of (InputFault name) = input_fault_line name.now
line_of (Missing name) = missing_line name.now
line_of (BadElf name fault) = bad_program_line name.now fault
line_of TooBig = too_big_line
line_of SinkFault = []
line_of DiskFault = disk_fault_line
line_of NoSet = no_set_line
line_of (Damaged slot damage) = damaged_line slot damage
line_of (Budget records) = budget_line records
line_of Stuck = stuck_line
line_of Memory = memory_line

abbrev pub Concludes : Ending → Status → Sunk → Type 0
Concludes ending status log = ((status ≡ status_of ending) × Took log (line_of ending))
    ⊎ ((status ≡ IsSinkFault) × TookFront log (line_of ending))
