use Rattle.std.proofs.Common.{◌∙◌, ap, sym}
use Rattle.wire_channels.specs.Channels.{direction_at}
use Rattle.drain_core.specs.Tasks.{is_agent}
use Rattle.drain_core.proofs.OneStep.{flows_on, dir_same, sender_same, stepped, step_notes, step_moves, step_net}
use Rattle.drain_core.proofs.notes.step_on.Goals as goal

pub send_as-sent-requires-clause-flows : goal.send_as-sent-requires-clause-flows
send_as-sent-requires-clause-flows c = λ sends.
    flows_on c.args.net.now.channels c.read_as-read.new.net.channels c.args.notes.now.dir c.read_as-read.new.notes.dir c.read_as-read.result
    (ap (λ t. t.channels) c.read_as-read.ensures.net) (ap (λ x. x.dir) c.read_as-read.ensures.notes ∙ dir_same _ c.args.notes.now)
    (c.requires.flows (ap (is_agent c.args.agent) (sym (ap (λ x. x.sender) c.read_as-read.ensures.notes ∙ sender_same _ c.args.notes.now)) ∙ sends))

pub returns-then-read-gt0-clause-notes : goal.returns-then-read-gt0-clause-notes
returns-then-read-gt0-clause-notes c =
    let is = stepped c.args.agent c.args.notes.now c.read_as-read.result c.send_as-sent.result c.read_as-read.new.notes c.args.net.now c.read_as-read.new.net
    c.read_as-read.ensures.count c.read_as-read.ensures.notes c.read_as-read.ensures.net c.send_as-sent.ensures.count in
    step_notes c.args.agent c.args.notes.now (direction_at c.args.net.now.channels c.args.notes.now.dir) c.read_as-read.result c.send_as-sent.result c.read_as-read.new.notes c.send_as-sent.new.notes is c.send_as-sent.ensures.notes

pub returns-then-read-gt0-clause-net : goal.returns-then-read-gt0-clause-net
returns-then-read-gt0-clause-net c =
    let is = stepped c.args.agent c.args.notes.now c.read_as-read.result c.send_as-sent.result c.read_as-read.new.notes c.args.net.now c.read_as-read.new.net
    c.read_as-read.ensures.count c.read_as-read.ensures.notes c.read_as-read.ensures.net c.send_as-sent.ensures.count in
    step_net c.args.agent c.args.notes.now c.read_as-read.result c.send_as-sent.result c.read_as-read.new.notes c.args.net.now c.read_as-read.new.net c.send_as-sent.new.net is c.read_as-read.ensures.net c.send_as-sent.ensures.net

pub returns-else-read-gt0-clause-moved : goal.returns-else-read-gt0-clause-moved
returns-else-read-gt0-clause-moved c =
    let is = stepped c.args.agent c.args.notes.now c.read_as-read.result c.send_as-sent.result c.read_as-read.new.notes c.args.net.now c.read_as-read.new.net
    c.read_as-read.ensures.count c.read_as-read.ensures.notes c.read_as-read.ensures.net c.send_as-sent.ensures.count in
    step_moves c.args.agent c.args.notes.now (direction_at c.args.net.now.channels c.args.notes.now.dir) c.read_as-read.result c.send_as-sent.result c.read_as-read.new.notes is c.if-read-gt0.false

pub returns-else-read-gt0-clause-notes : goal.returns-else-read-gt0-clause-notes
returns-else-read-gt0-clause-notes c =
    let is = stepped c.args.agent c.args.notes.now c.read_as-read.result c.send_as-sent.result c.read_as-read.new.notes c.args.net.now c.read_as-read.new.net
    c.read_as-read.ensures.count c.read_as-read.ensures.notes c.read_as-read.ensures.net c.send_as-sent.ensures.count in
    step_notes c.args.agent c.args.notes.now (direction_at c.args.net.now.channels c.args.notes.now.dir) c.read_as-read.result c.send_as-sent.result c.read_as-read.new.notes c.send_as-sent.new.notes is c.send_as-sent.ensures.notes

pub returns-else-read-gt0-clause-net : goal.returns-else-read-gt0-clause-net
returns-else-read-gt0-clause-net c =
    let is = stepped c.args.agent c.args.notes.now c.read_as-read.result c.send_as-sent.result c.read_as-read.new.notes c.args.net.now c.read_as-read.new.net
    c.read_as-read.ensures.count c.read_as-read.ensures.notes c.read_as-read.ensures.net c.send_as-sent.ensures.count in
    step_net c.args.agent c.args.notes.now c.read_as-read.result c.send_as-sent.result c.read_as-read.new.notes c.args.net.now c.read_as-read.new.net c.send_as-sent.new.net is c.read_as-read.ensures.net c.send_as-sent.ensures.net
