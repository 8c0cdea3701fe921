use Rattle.std.proofs.Common.{List, sym, subst}
use Rattle.wire_net.specs.declared.agents.AgentEnd.{AgentEnd}
use Rattle.wire_net.specs.Ends.{IsFor}
use Rattle.cut_stages.specs.Rounds.{AreLed}
use Rattle.cut_stages.proofs.Led.{drain_led}
use Rattle.ckpt_stages.proofs.Electing.{agents_for, room_naming, drain_begun}
use Rattle.ckpt_stages.proofs.elected.Elected.begin.Goals as goal

pub begin-drain-requires-clause-ends : goal.begin-drain-requires-clause-ends
begin-drain-requires-clause-ends c =
    let base = c.args.base in
    subst (IsFor base.system.kernel.net.channels) (sym c.as_slice.ensures)
    (agents_for base.system base.next_id base.stood.kernel base.owners c.args.voters.now c.args.dirs.now
    c.args.ends
    c.args.room c.requires.suspended c.requires.voted c.whole.ensures c.name_agents.new.ends.items
    c.name_agents.ensures.places c.name_agents.ensures.agents)

pub begin-drain-requires-clause-naming : goal.begin-drain-requires-clause-naming
begin-drain-requires-clause-naming c =
    let base = c.args.base in
    room_naming base.system base.next_id base.stood.kernel base.owners c.args.voters.now c.args.dirs.now
    c.args.ends
    c.args.room c.requires.suspended

pub invariant_of-result : goal.invariant_of-result
invariant_of-result c =
    let base = c.args.base in
    drain_begun base.system base.next_id base.stood.kernel base.owners c.args.voters.now c.args.dirs.now
    c.args.ends
    c.args.room c.requires.suspended c.requires.voted c.whole.ensures c.name_agents.new.ends.items
    c.name_agents.ensures.places c.name_agents.ensures.agents c.begin-drain.result c.begin-drain.ensures.fits
    c.begin-drain.ensures.there c.begin-drain.ensures.kept
    (subst (λ (ends : List AgentEnd). AreLed ends c.begin-drain.result) c.as_slice.ensures
    (subst (AreLed _) (sym c.begin-drain.ensures.begun)
    (drain_led _ base.system.kernel.net.channels c.args.room.lengths)))
