-- A system whose leaders take the bytes off its channels.
-- Source: DMTCP's stage "drain kernel buffers".
--     Draining                       what a contract sees of it
--     step_answer_of, has_work_of    what a process answers as an agent
--     LiveGoesOn                     a live process goes on, or bytes pass on
use Rattle.std.specs.Prelude.{◌≡◌, ◌⊎◌, ℕ, Bool, true, false, refl}
use Rattle.std.specs.Option.{option_map_or}
use Rattle.std.specs.Coded.{Coded, code_by, coded×, coded_ℕ, coded_list}
use Rattle.std.specs.FinMap as map
use Rattle.sys_abi.specs.declared.identity.RealPid.{RealPid}
use Rattle.sys_abi.specs.declared.identity.VPid.{VPid}
use Rattle.sys_abi.specs.Orders.{coded_real_pid}
use Rattle.barrier_core.specs.Barriers.{BarrierState, coded_state}
use Rattle.drain_core.specs.Drains.{Notes, has_work, step_answer}
use Rattle.plain_machine.specs.declared.kernel.PlainKernel.{PlainKernel}
use Rattle.plain_machine.specs.Kernel.{is_live}
use Rattle.wire_net.specs.declared.agents.Stepped.{Stepped}
use Rattle.wire_net.specs.declared.agents.Stepped.TheVariants.{Finished, Moved}
use Rattle.wire_net.specs.contracts.cut_room.DirNotes as dir_notes
use Rattle.wire_net.specs.Networks.{Network, coded_network}
use Rattle.wire_net.specs.Noted.{CanMove}
use Rattle.host_tables.specs.Numbers.{Pids}
use Rattle.cut_stages.specs.OfWrapNames.Codes.{kernel_code}

-- pids are the real numbers of the agents
pub record Draining : Type 0 where
  pub kernel : PlainKernel
  pub next_id : ℕ
  pub barrier : BarrierState
  pub pids : Pids
  pub net : Network
  pub notes : Notes

-- stored as the pairs of its fields
abbrev pub coded_draining : Coded Draining
coded_draining =
    code_by
    (PlainKernel × (ℕ × (BarrierState × (Pids × (Network × Notes)))))
    (coded× kernel_code (coded× coded_ℕ (coded× coded_state
    (coded× (map.code coded_ℕ coded_real_pid) (coded× coded_network (coded_list dir_notes.the_row.coded))))))
    (λ s. (s.kernel, (s.next_id, (s.barrier, (s.pids, (s.net, s.notes))))))
    (λ p. record {
      kernel = p.0;
      next_id = p.1.0;
      barrier = p.1.1.0;
      pids = p.1.1.1.0;
      net = p.1.1.1.1.0;
      notes = p.1.1.1.1.1;
    })
    (λ _. refl)

-- a process without a real number is nobody's agent
abbrev pub step_answer_of : Draining → VPid → Stepped
step_answer_of s agent =
    option_map_or (λ (r : RealPid). step_answer r s.net.channels s.notes) (map.get s.pids agent.0) Finished

abbrev pub has_work_of : Draining → VPid → Bool
has_work_of s agent = option_map_or (λ (r : RealPid). has_work r s.notes) (map.get s.pids agent.0) false

abbrev pub LiveGoesOn : Draining → Type 0
LiveGoesOn s =
    ((p : VPid) × ((is_live s.kernel p ≡ true) × (step_answer_of s p ≡ Moved)))
    ⊎ CanMove s.net.channels s.notes
