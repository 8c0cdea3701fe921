-- What a process that waits for its children finds.
-- Source: `man 2 wait4`; that of several the least number is taken first is this project's own rule.
--     wait_for processes p child      for this child, or for any
--     is_answered found               the call need not wait
use Rattle.std.specs.Prelude.{Bool, true, false, List, [], ◌∷◌, Option, Some, None, if◌then◌else◌}
use Rattle.std.specs.FinMap as map
use Rattle.id_maps.specs.OfSysAbi.declared.identity.VPid.{VPid}
use Rattle.id_maps.specs.OfSysAbi.declared.life.Life.{Life}
use Rattle.id_maps.specs.OfSysAbi.declared.life.Life.TheVariants.{Live, Zombie}
use Rattle.plain_tables.specs.declared.process.Process.{Process}
use Rattle.plain_tables.specs.Tables.{Processes}
use Rattle.plain_tables.specs.Ends.{is_child_of}
use Rattle.plain_tables.specs.declared.waiting.Waiting.{Waiting}
use Rattle.plain_tables.specs.declared.waiting.Waiting.TheVariants.{NoChild, NotReady, Ended}

-- of a child that is there
abbrev pub wait_of : VPid → Life → Waiting
wait_of q Live = NotReady
wait_of q (Zombie status) = Ended q status

abbrev pub wait_by : VPid → VPid → Option Process → Waiting
wait_by p q None = NoChild
wait_by p q (Some process) = if is_child_of p process then wait_of q process.life else NoChild

-- of the children in their order, the first one that has ended
abbrev pub ended_first : VPid → Life → Waiting → Waiting
ended_first q (Zombie status) later = Ended q status
ended_first q Live (Ended r status) = Ended r status
ended_first q Live NoChild = NotReady
ended_first q Live NotReady = NotReady

abbrev pub wait_any : VPid → List (VPid × Process) → Waiting
wait_any p [] = NoChild
wait_any p (e ∷ es) = if is_child_of p e.1 then ended_first e.0 e.1.life (wait_any p es) else wait_any p es

abbrev pub wait_for : Processes → VPid → Option VPid → Waiting
wait_for processes p None = wait_any p (map.entries processes)
wait_for processes p (Some child) = wait_by p child (map.get processes child)

abbrev pub is_answered : Waiting → Bool
is_answered NotReady = false
is_answered _ = true
