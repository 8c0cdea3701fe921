-- Whole runs of a refill: steps of agents and moves of bytes, in any order.
--     step, moves        what a step of an agent leaves, and whether it moves bytes
--     GivesBack          whatever happens on the way, when a refill is done the bytes of each list, and no others, can be read from its direction
--     EndsInTime         no run has more events that move bytes than there was work
use Rattle.std.specs.Prelude.{◌≡◌, ◌≤◌, Bool, true, List, All}
use Rattle.sys_abi.specs.declared.identity.RealPid.{RealPid}
use Rattle.wire_net.specs.declared.agents.AgentEnd.{AgentEnd}
use Rattle.wire_net.specs.declared.cut_room.DirBytes.{DirBytes}
use Rattle.wire_net.specs.CutRooms.{Named}
use Rattle.wire_net.specs.DrainedNets.{IsDrained, HasLists, IsNamingLists}
use Rattle.wire_net.specs.Ends.{IsFor}
use Rattle.wire_net.specs.Networks.{Network}
use Rattle.wire_net.specs.Runs.{Event, IsAllowed, UnderWay, Steps, run, moves_made}
use Rattle.refill_core.specs.Beginnings.{begun, IsGivenBack}
use Rattle.refill_core.specs.Refills.{Refilling, dirs_of, Fits, turns_after}
use Rattle.refill_core.specs.Stepping.{state}
use Rattle.refill_core.specs.Work.{moved_any, is_done, work_left}

abbrev pub put_state : UnderWay → Refilling → UnderWay
put_state s r = record { net = record s.net { channels = r.channels }; notes = r.notes }

abbrev pub step : Steps
step p s = put_state s (turns_after p (dirs_of s.notes) (state s.notes s.net))

abbrev pub moves : RealPid → UnderWay → Bool
moves p s = moved_any p (dirs_of s.notes) (state s.notes s.net)

abbrev pub GivesBack : Type 0
GivesBack = (t : Network) (ends : List AgentEnd) (lengths : List Named) (lists : List DirBytes) (events : List Event) → IsFor t.channels ends → IsDrained t.channels lists → HasLists t.channels lists
    → IsNamingLists lengths lists → All IsAllowed events
    → let s = run step events (record { net = t; notes = begun lists ends lengths }) in
    is_done s.net.channels s.notes ≡ true → All (IsGivenBack s.net.channels) lists

abbrev pub EndsInTime : Type 0
EndsInTime = (events : List Event) (s : UnderWay) → Fits s.net.channels s.notes → All IsAllowed events → moves_made step moves events s ≤ work_left s.net.channels s.notes
