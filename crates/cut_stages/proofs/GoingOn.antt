-- A refill that goes on, with those who act for its ends.
--     refilling_further      it is one where bytes have moved on
--     seen_less              what is seen of it, after a move
use Rattle.std.proofs.Common.{◌≡◌, ◌<◌, ◌⊎◌, ℕ, List, inl, inr, ap}
use Rattle.refill_core.specs.Refills.{Notes}
use Rattle.refill_core.specs.Work.{work_left}
use Rattle.plain_machine.specs.declared.kernel.PlainKernel.{PlainKernel}
use Rattle.wire_net.specs.declared.agents.AgentEnd.{AgentEnd}
use Rattle.wire_net.specs.Networks.{Network}
use Rattle.host_tables.specs.declared.system.System.{System}
use Rattle.leader_vote.specs.Owners.{Owners}
use Rattle.cut_stages.specs.Resumptions.{Filling, IsRefilling, refill_task}
use Rattle.cut_stages.specs.Rounds.{under_way, IsFurther}
use Rattle.cut_stages.proofs.Cutting.{with_net}
use Rattle.cut_stages.proofs.Filling.{filled_step}
use Rattle.cut_stages.proofs.Rounds.{acting_on}

pub refilling_further : (s : System) (next_id : ℕ) (k : PlainKernel) (owners : Owners) (ends : List AgentEnd)
    (notes : Notes) → IsRefilling s next_id k owners ends notes → (t : Network) (notes' : Notes)
    → IsFurther refill_task (under_way s.kernel.net notes) (under_way t notes')
    → IsRefilling (with_net s t) next_id k owners ends notes'
refilling_further s next_id k owners ends notes is t notes' on = record {
  filling = filled_step s next_id k owners notes is.filling t notes' on.net on.frame on.fits on.agents
      on.kept;
  acting = acting_on refill_task ends (under_way s.kernel.net notes) (under_way t notes') is.acting on;
}

pub seen_less : (v : Filling) (u : Network)
    → (u ≡ v.net) ⊎ (work_left u.channels v.notes < work_left v.net.channels v.notes)
    → (record v { net = u } ≡ v) ⊎ (work_left u.channels v.notes < work_left v.net.channels v.notes)
seen_less v u (inl same) = inl (ap (λ (n : Network). record v { net = n }) same)
seen_less v u (inr less) = inr less
