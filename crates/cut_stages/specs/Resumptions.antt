-- A system whose channels are drained or filled again, and one that is resumed.
-- Source: DMTCP's stages "drain kernel buffers", "write checkpoint to disk", "refill kernel buffers" and
-- "resume user threads".
--     Held, Filling, Filled        what a contract sees of each stage
--     left_of k d                  how many bytes of a direction are unread
--     AreShort, count_on lists d   no list is longer than a queue;  how many bytes the list of a direction
--                                  has
--     refill_answer_of, has_refill_of      what a process answers as an agent
--     IsDrainedSet s ..            it is a cut of whose bytes lists have those that were taken off
--     IsFilling s ..               it is a cut whose agents hold what they send back
--     refill_task                  what the agents do
--     IsRefilling s ..             it is filled so, each open end has an agent, and all agents are those of
--                                  listed ends
--     IsFilled s ..                it is a cut of which all bytes can be read
use Rattle.std.specs.Prelude.{◌≡◌, ◌<◌, ◌≤◌, ℕ, Bool, true, false, List, length, IsSome, All, refl}
use Rattle.std.specs.Option.{option_map_or}
use Rattle.std.specs.Coded.{Coded, code_by, coded×, coded_ℕ, coded_list}
use Rattle.std.specs.FinMap as map
use Rattle.sys_abi.specs.declared.identity.Dir.{Dir}
use Rattle.sys_abi.specs.declared.identity.RealPid.{RealPid}
use Rattle.sys_abi.specs.declared.identity.VPid.{VPid}
use Rattle.sys_abi.specs.Orders.{coded_real_pid}
use Rattle.barrier_core.specs.Barriers.{BarrierState, coded_state}
use Rattle.plain_machine.specs.declared.kernel.PlainKernel.{PlainKernel}
use Rattle.plain_tables.specs.declared.channel.Direction.{Direction}
use Rattle.refill_core.specs.Refills as refills
use Rattle.refill_core.specs.Holding as refilling
use Rattle.refill_core.specs.Stepping.{state}
use Rattle.refill_core.specs.Work.{step_answer, has_work, work_left}
use Rattle.wire_channels.specs.declared.limits.TheConstants.{QUEUE_LIMIT}
use Rattle.wire_channels.specs.Answers.{received_on}
use Rattle.wire_channels.specs.Channels.{direction_at}
use Rattle.wire_net.specs.declared.agents.AgentEnd.{AgentEnd}
use Rattle.wire_net.specs.declared.agents.Stepped.{Stepped}
use Rattle.wire_net.specs.declared.agents.Stepped.TheVariants.{Finished}
use Rattle.wire_net.specs.declared.cut_room.DirBytes.{DirBytes}
use Rattle.wire_net.specs.contracts.cut_room.DirNotes as dir_notes
use Rattle.wire_net.specs.CutRooms.{RoomView}
use Rattle.wire_net.specs.DrainedNets.{IsDrained, HasLists, IsNamingLists, agents_of_lists, list_on}
use Rattle.wire_net.specs.Ends.{IsFor}
use Rattle.wire_net.specs.Networks.{Network, coded_network}
use Rattle.wire_net.specs.Whereabouts.{stream_on, whereabouts}
use Rattle.host_tables.specs.declared.system.System.{System}
use Rattle.host_tables.specs.Numbers.{Pids}
use Rattle.wrap_names.specs.Codes.{kernel_code}
use Rattle.leader_vote.specs.Owners.{Owners}
use Rattle.cut_stages.specs.declared.outcome.PutOutcome.{PutOutcome}
use Rattle.cut_stages.specs.contracts.outcome.PutOutcome as outcome
use Rattle.cut_stages.specs.Cuts.{IsCut}
use Rattle.cut_stages.specs.Rounds.{Task, AreActing, under_way}

pub record Held : Type 0 where
  pub kernel : PlainKernel
  pub next_id : ℕ
  pub barrier : BarrierState

abbrev pub coded_held : Coded Held
coded_held =
    code_by
    (PlainKernel × (ℕ × BarrierState))
    (coded× kernel_code (coded× coded_ℕ coded_state))
    (λ s. (s.kernel, (s.next_id, s.barrier)))
    (λ p. record { kernel = p.0; next_id = p.1.0; barrier = p.1.1 })
    (λ _. refl)

abbrev pub left_of : PlainKernel → Dir → ℕ
left_of k d = option_map_or (λ (x : Direction). length x.left) (map.get k.directions d) 0

-- it has the outcome of the writing of its images
pub record Filling : Type 0 where
  pub kernel : PlainKernel
  pub next_id : ℕ
  pub barrier : BarrierState
  pub outcome : PutOutcome
  pub pids : Pids
  pub net : Network
  pub notes : refills.Notes

abbrev pub coded_filling : Coded Filling
coded_filling =
    code_by
    (PlainKernel × (ℕ × (BarrierState × (PutOutcome × (Pids × (Network × refills.Notes))))))
    (coded× kernel_code (coded× coded_ℕ (coded× coded_state (coded× outcome.the_row.coded
    (coded× (map.code coded_ℕ coded_real_pid) (coded× coded_network (coded_list dir_notes.the_row.coded)))))))
    (λ s. (s.kernel, (s.next_id, (s.barrier, (s.outcome, (s.pids, (s.net, s.notes)))))))
    (λ p. record {
      kernel = p.0;
      next_id = p.1.0;
      barrier = p.1.1.0;
      outcome = p.1.1.1.0;
      pids = p.1.1.1.1.0;
      net = p.1.1.1.1.1.0;
      notes = p.1.1.1.1.1.1;
    })
    (λ _. refl)

pub record Filled : Type 0 where
  pub kernel : PlainKernel
  pub next_id : ℕ
  pub barrier : BarrierState
  pub outcome : PutOutcome

abbrev pub coded_filled : Coded Filled
coded_filled =
    code_by
    (PlainKernel × (ℕ × (BarrierState × PutOutcome)))
    (coded× kernel_code (coded× coded_ℕ (coded× coded_state outcome.the_row.coded)))
    (λ s. (s.kernel, (s.next_id, (s.barrier, s.outcome))))
    (λ p. record { kernel = p.0; next_id = p.1.0; barrier = p.1.1.0; outcome = p.1.1.1 })
    (λ _. refl)

-- a process without a real number is nobody's agent
abbrev pub refill_answer_of : Filling → VPid → Stepped
refill_answer_of s agent =
    option_map_or (λ (r : RealPid). step_answer r (state s.notes s.net)) (map.get s.pids agent.0) Finished

abbrev pub has_refill_of : Filling → VPid → Bool
has_refill_of s agent = option_map_or (λ (r : RealPid). has_work r s.notes) (map.get s.pids agent.0) false

abbrev pub AreShort : List DirBytes → Type 0
AreShort lists = All (λ list. length list.bytes ≤ QUEUE_LIMIT) lists

abbrev pub count_on : List DirBytes → Dir → ℕ
count_on lists d = option_map_or (λ (list : DirBytes). length list.bytes) (list_on d lists) 0

pub record IsDrainedSet (s : System) (next_id : ℕ) (k : PlainKernel) (owners : Owners) (ends : List AgentEnd)
    (lists : List DirBytes) (room : RoomView) : Type 0 where
  pub cut : IsCut s next_id k owners (agents_of_lists lists)
  pub agents : IsFor s.kernel.net.channels ends
  pub drained : IsDrained s.kernel.net.channels lists
  pub whole : HasLists s.kernel.net.channels lists
  pub naming : IsNamingLists room.lengths lists
  pub bytes : All (λ list. list.bytes ≡ whereabouts s.kernel.net (agents_of_lists lists) list.dir) lists

pub record IsFilling (s : System) (next_id : ℕ) (k : PlainKernel) (owners : Owners)
    (notes : refills.Notes) : Type 0 where
  pub cut : IsCut s next_id k owners (refilling.agents_of notes)
  pub fits : refills.Fits s.kernel.net.channels notes
  pub noted : (d : Dir) → d.side < 2 → IsSome (direction_at s.kernel.net.channels d)
      → refills.has_notes d notes ≡ true

abbrev pub refill_task : Task
refill_task = record {
  fitting = refills.Fits;
  held = refilling.agents_of;
  work = work_left;
  answer = λ p m notes. step_answer p (record { notes = notes; channels = m });
}

pub record IsRefilling (s : System) (next_id : ℕ) (k : PlainKernel) (owners : Owners) (ends : List AgentEnd)
    (notes : refills.Notes) : Type 0 where
  pub filling : IsFilling s next_id k owners notes
  pub acting : AreActing ends (under_way s.kernel.net notes)

pub record IsFilled (s : System) (next_id : ℕ) (k : PlainKernel) (owners : Owners) : Type 0 where
  pub cut : IsCut s next_id k owners map.empty
  pub quiet : (d : Dir) → d.side < 2
      → received_on (direction_at s.kernel.net.channels d) ≡ stream_on (direction_at s.kernel.net.channels d)
