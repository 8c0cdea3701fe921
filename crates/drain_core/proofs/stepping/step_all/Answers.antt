use Rattle.std.proofs.Common.{ap}
use Rattle.wire_channels.specs.Channels.{direction_at}
use Rattle.drain_core.specs.Tasks.{note_after}
use Rattle.wire_net.proofs.EachItem.{turn_notes}
use Rattle.drain_core.proofs.Walk.{finds, sends_there, noted_there, net_there, moved_there, turn_moved}
use Rattle.drain_core.proofs.stepping.step_all.Goals as goal

pub step_on-moved-requires-clause-flows : goal.step_on-moved-requires-clause-flows
step_on-moved-requires-clause-flows c =
    sends_there c.args.agent c.args.net.now.channels c.loop-notes.net.channels c.args.all.now c.loop-notes.notes-index _ _
    (finds c.args.agent c.args.net.now.channels c.loop-notes.net.channels c.loop-notes.all c.args.all.now c.loop-notes.notes-index c.notes-item.result c.loop-notes-test.true c.requires
    c.loop-notes.invariant.notes (ap (λ t. t.channels) c.loop-notes.invariant.net))

pub loop-notes-preserved : goal.loop-notes-preserved
loop-notes-preserved c =
    let found =
    finds c.args.agent c.args.net.now.channels c.loop-notes.net.channels c.loop-notes.all c.args.all.now c.loop-notes.notes-index c.notes-item.result c.loop-notes-test.true c.requires
    c.loop-notes.invariant.notes (ap (λ t. t.channels) c.loop-notes.invariant.net) in record {
      notes =
          turn_notes (λ x. note_after c.args.agent (direction_at c.args.net.now.channels x.dir) x) c.loop-notes.all c.args.all.now c.loop-notes.notes-index _ c.step_on-moved.new.notes found.at c.loop-notes.invariant.notes
          (noted_there c.args.agent c.args.net.now.channels c.loop-notes.net.channels c.args.all.now c.loop-notes.notes-index _ _ c.step_on-moved.new.notes found c.step_on-moved.ensures.notes);
      net =
          net_there c.args.agent c.args.net.now c.loop-notes.net c.step_on-moved.new.net c.args.all.now c.loop-notes.notes-index _ _ found c.loop-notes.invariant.net c.step_on-moved.ensures.net;
      moved =
          turn_moved c.args.agent c.args.net.now.channels c.args.all.now c.loop-notes.notes-index _ found.at c.loop-notes.moved c.step_on-moved.result c.loop-notes.invariant.moved
          (moved_there c.args.agent c.args.net.now.channels c.loop-notes.net.channels c.args.all.now c.loop-notes.notes-index _ _ c.step_on-moved.result found c.step_on-moved.ensures.moved);
    }
