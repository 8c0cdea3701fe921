use Rattle.std.proofs.Common.{sym, ◌∙◌}
use Rattle.wrap_names.proofs.Callers.{sound}
use Rattle.wrap_makers.proofs.CloneAnswered.{with_number, with_none}
use Rattle.wrap_makers.proofs.Owed.{node_there, own_below, lives, left, new_number, new_real}
use Rattle.wrap_makers.proofs.starting.start.Goals as goal

pub next_real-requires-clause-node : goal.next_real-requires-clause-node
next_real-requires-clause-node c =
    node_there c.args.system.now c.args.number c.args.stood.now.kernel c.requires.wrapped c.args.p c.args.who
    c.requires.paired

pub next_real-requires-clause-left : goal.next_real-requires-clause-left
next_real-requires-clause-left c =
    left c.args.system.now c.args.number c.args.stood.now.kernel c.requires.wrapped c.args.p c.args.who
    c.requires.paired c.requires.left

pub add_number-requires-clause-new_number : goal.add_number-requires-clause-new_number
add_number-requires-clause-new_number c =
    new_number c.args.system.now c.args.number c.args.stood.now.kernel c.requires.wrapped c.args.p c.args.who
    c.requires.paired

pub add_number-requires-clause-new_real : goal.add_number-requires-clause-new_real
add_number-requires-clause-new_real c =
    new_real c.args.system.now c.args.number c.args.stood.now.kernel c.requires.wrapped c.args.p c.args.who
    c.requires.paired c.next_real.result c.next_real.ensures.number

pub clone-requires-clause-sound : goal.clone-requires-clause-sound
clone-requires-clause-sound c =
    sound c.args.system.now c.args.number c.args.stood.now.kernel c.requires.wrapped

pub clone-requires-clause-node : goal.clone-requires-clause-node
clone-requires-clause-node c =
    node_there c.args.system.now c.args.number c.args.stood.now.kernel c.requires.wrapped c.args.p c.args.who
    c.requires.paired

pub clone-requires-clause-below : goal.clone-requires-clause-below
clone-requires-clause-below c =
    own_below c.args.system.now c.args.number c.args.stood.now.kernel c.requires.wrapped c.args.p c.args.who
    c.requires.paired

pub clone-requires-clause-alive : goal.clone-requires-clause-alive
clone-requires-clause-alive c =
    lives c.args.system.now c.args.number c.args.stood.now.kernel c.requires.wrapped c.args.p c.args.who
    c.requires.paired c.requires.alive

pub clone-requires-clause-left : goal.clone-requires-clause-left
clone-requires-clause-left c =
    left c.args.system.now c.args.number c.args.stood.now.kernel c.requires.wrapped c.args.p c.args.who
    c.requires.paired c.requires.left

pub returns-then-is_done : goal.returns-then-is_done
returns-then-is_done c =
    with_number c.args.system.now c.args.number c.args.stood.now.kernel c.requires.wrapped c.args.p
    c.args.flags c.args.who c.requires.paired c.requires.alive c.args.form c.requires.form c.requires.left
    c.next_real.result c.next_real.ensures.number c.maker_in-maker.result c.maker_in-maker.ensures
    c.add_number.new.ids c.in-Ok.ensures.paired c.add_number.new.conns c.in-Ok.ensures.made c.clone.result
    c.clone.new.kernel c.clone.ensures.ok c.told_as-reply.result c.told_as-reply.ensures
    c.clone.ensures.number (sym c.is_done.ensures ∙ c.if-is_done.true)

pub returns : goal.returns
returns c =
    with_none c.args.system.now c.args.number c.args.stood.now.kernel c.requires.wrapped c.args.p
    c.args.flags c.args.who c.requires.paired c.requires.alive c.args.form c.requires.form c.requires.left
    c.next_real.result c.next_real.ensures.number c.maker_in-maker.result c.maker_in-maker.ensures
    c.add_number.new.ids c.in-Ok.ensures.paired c.add_number.new.conns c.in-Ok.ensures.made c.clone.result
    c.clone.new.kernel c.clone.ensures.ok c.told_as-reply.result c.told_as-reply.ensures c.clone.ensures.err
    (sym c.is_done.ensures ∙ c.if-is_done.false) c.drop_number.new.ids c.drop_number.new.conns
    c.drop_number.ensures.ids c.drop_number.ensures.conns
