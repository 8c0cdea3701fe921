use Rattle.std.proofs.Common.{List, sym, subst}
use Rattle.wire_net.specs.declared.agents.AgentEnd.{AgentEnd}
use Rattle.wire_net.specs.Ends.{IsFor}
use Rattle.cut_stages.specs.Rounds.{AreLed}
use Rattle.cut_stages.proofs.Filling.{filling_begun}
use Rattle.cut_stages.proofs.Led.{refill_led}
use Rattle.cut_stages.proofs.written.Written.begin.Goals as goal

pub invariant_of-result : goal.invariant_of-result
invariant_of-result c =
    let base = c.args.base in
    let s = base.system in
    let is = c.requires in
    let agents = subst (IsFor s.kernel.net.channels) (sym c.as_slice.ensures) is.agents in record {
      filling =
          filling_begun s base.next_id base.stood.kernel base.owners c.args.ends.items c.args.drained.lists
          c.args.room is
          c.begin-refill.result (c.begin-refill.ensures.fits s.kernel.net.channels agents is.drained is.whole)
          (c.begin-refill.ensures.there s.kernel.net.channels is.whole)
          (c.begin-refill.ensures.held s.kernel.net agents is.drained is.whole);
      acting = record {
        agents = is.agents;
        led =
            subst (λ (ends : List AgentEnd). AreLed ends c.begin-refill.result) c.as_slice.ensures
            (subst (AreLed _) (sym c.begin-refill.ensures.begun)
            (refill_led _ c.args.drained.lists c.args.room.lengths));
      };
    }
