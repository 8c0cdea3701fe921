-- What a driver is given, and how its call ends.
--     state_of kernel guests     the plain state for which a system and its guests stand
--     schedule_of every opening  when checkpoints are asked for, and from which generation on sets count
--     CanDrive ..                that state can be run, and the store of sets is there where it is needed
--     end_told status            the end of a run that the status tells
--     StandsAtEnd ..             the system that comes back stands for the kernel part at the end of the run
use Rattle.std.specs.Prelude.{◌≡◌, ℕ, suc, ◌<◌, List, All, Option, is_some, IfSome}
use Rattle.std.specs.FinMap as map
use Rattle.views.specs.Maps.{map_values}
use Rattle.sys_abi.specs.declared.identity.VPid.{VPid}
use Rattle.sys_abi.specs.declared.record.Record.{Record}
use Rattle.disk_folder.specs.SeenFolder.{SeenFolder}
use Rattle.plain_machine.specs.declared.kernel.PlainKernel.{PlainKernel}
use Rattle.plain_machine.specs.declared.plain.Plain.{Plain}
use Rattle.plain_machine.specs.Valid.{IsValid}
use Rattle.checkpointer.specs.OfGuestProc.Guests.{GuestPart}
use Rattle.image_store.specs.StoreStates.{Known, FitsFolder, next_generation}
use Rattle.trace_log.specs.declared.requests.Schedule.{Schedule}
use Rattle.drive.specs.declared.loop_end.LoopEnd.{LoopEnd}
use Rattle.drive.specs.declared.loop_end.LoopEnd.TheVariants as loop_ended
use Rattle.drive.specs.RunEnds.{KernelAtEnd}
use Rattle.drive.specs.declared.run_status.RunStatus.{RunStatus}
use Rattle.drive.specs.declared.run_status.RunStatus.TheVariants.{Ended, SinkFault}
use Rattle.drive.specs.declared.run_status.RunEnd.TheVariants.{Done, Stuck, Budget, Memory}

abbrev pub Guests : Type 0
Guests = List (VPid × GuestPart)

abbrev pub state_of : PlainKernel → Guests → Plain
state_of kernel guests =
    record { kernel = kernel; users = map_values (λ guest. guest.user) (map.from_entries guests) }

abbrev pub schedule_of : Option ℕ → ℕ → Schedule
schedule_of every opening = record { every = every; opening = opening }

-- a store is there exactly where checkpoints are asked for, and the next set follows the opening one
pub record CanDrive (kernel : PlainKernel) (guests : Guests) (schedule : Schedule) (store : Option Known)
    (folder : SeenFolder) : Type 0 where
  pub valid : IsValid (state_of kernel guests)
  pub numbered : All (λ entry. entry.1.pid ≡ entry.0) guests
  pub every : IfSome schedule.every (λ every. 0 < every)
  pub stored : is_some store ≡ is_some schedule.every
  pub follows : IfSome store (λ known. next_generation known ≡ suc schedule.opening)
  pub fits : IfSome store (λ known. FitsFolder known folder)

abbrev pub end_told : RunStatus → LoopEnd
end_told (Ended Done) = loop_ended.Done
end_told (Ended Stuck) = loop_ended.Stuck
end_told (Ended Budget) = loop_ended.Budget
end_told (Ended Memory) = loop_ended.Memory
end_told SinkFault = loop_ended.SinkFault

abbrev pub StandsAtEnd : Plain → List Record → Option PlainKernel → Type 0
StandsAtEnd g trace back = IfSome back (KernelAtEnd g trace)
