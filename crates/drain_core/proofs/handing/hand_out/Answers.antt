use Rattle.drain_core.specs.Openings.{emptied}
use Rattle.wire_net.proofs.EachItem.{item_changed}
use Rattle.drain_core.proofs.GivenLists.{lists_room, lists_more}
use Rattle.drain_core.proofs.handing.hand_out.Goals as goal

pub put_list-requires : goal.put_list-requires
put_list-requires c =
    lists_room c.args.net.now.channels c.args.all.now c.loop-notes.notes-index c.args.lists.now c.loop-notes.lists c.loop-notes-test.true c.loop-notes.invariant.lists c.requires.room

pub loop-notes-preserved : goal.loop-notes-preserved
loop-notes-preserved c = record {
  notes =
      item_changed emptied c.loop-notes.all c.args.all.now c.loop-notes.notes-index c.notes-item.result c.take_list-list.new.notes c.loop-notes-test.true
      c.loop-notes.invariant.notes c.take_list-list.ensures.emptied;
  lists =
      lists_more c.args.net.now.channels c.loop-notes.all c.args.all.now c.loop-notes.notes-index c.notes-item.result c.args.lists.now c.loop-notes.lists c.put_list.new.lists c.take_list-list.result
      c.loop-notes-test.true c.loop-notes.invariant.notes c.loop-notes.invariant.lists c.take_list-list.ensures.list c.put_list.ensures;
}
