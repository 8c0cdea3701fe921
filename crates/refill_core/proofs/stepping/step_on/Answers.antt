use Rattle.std.proofs.Common.{◌≡◌, sym, ap, ◌∙◌, arith}
use Rattle.wire_net.specs.declared.cut_room.DirNotes.{DirNotes}
use Rattle.refill_core.specs.Tasks.{is_agent, read_count, channels_read}
use Rattle.refill_core.proofs.OneStep.{not_agent_moved, not_agent_after}
use Rattle.refill_core.proofs.StepTaken.{Taken, taken, own_noted, sent_within, still_flows, sum_few, moved_then, moved_else, after_is, read_here, channels_here, again_item}
use Rattle.refill_core.proofs.stepping.step_on.Goals as goal

pub returns-then-not-is_agent-clause-moved : goal.returns-then-not-is_agent-clause-moved
returns-then-not-is_agent-clause-moved c =
    not_agent_moved c.args.agent c.args.net.now c.args.all.now c.args.place c.index-all-place.result c.requires.fits c.requires.within c.index-all-place.is
    (ap (λ (z : DirNotes). is_agent c.args.agent z.sender) c.index-all-place.is ∙ sym c.is_agent.ensures ∙ c.if-not-is_agent.true)

pub returns-then-not-is_agent-clause-after : goal.returns-then-not-is_agent-clause-after
returns-then-not-is_agent-clause-after c =
    not_agent_after c.args.agent c.args.net.now c.args.all.now c.args.place c.index-all-place.result c.requires.fits c.requires.within c.index-all-place.is
    (ap (λ (z : DirNotes). is_agent c.args.agent z.sender) c.index-all-place.is ∙ sym c.is_agent.ensures ∙ c.if-not-is_agent.true)

-- ---- what it asks of the send

asked : (c : goal.After-send_part-arg-1) → Taken c.args.agent c.args.net.now c.args.all.now c.args.place c.in-Some.other c.index-all-place.result c.index-all-other.result c.index-all-place-4.result
asked c =
    taken c.args.agent c.args.net.now c.args.all.now c.args.place c.in-Some.other c.index-all-place.result c.index-all-place-2.result c.index-all-place-3.result c.index-all-other.result
    c.read_frame-read.new.notes c.index-all-place-4.result c.reverse_of.result c.requires.fits c.requires.within c.in-Some.ensures.within c.index-all-place.is
    (sym c.is_agent.ensures ∙ c.if-not-is_agent.false) c.reverse_of.ensures c.in-Some.ensures.found c.read_frame-read.ensures.notes c.index-all-place-4.is c.index-all-other.is

asked_net : (c : goal.After-send_part-arg-1) → c.read_frame-read.new.net.channels ≡ channels_read c.args.agent c.index-all-place.result c.args.net.now.channels
asked_net c =
    channels_here c.args.agent c.args.net.now c.read_frame-read.new.net c.args.all.now c.args.place c.index-all-place.result c.index-all-place-3.result c.requires.within c.index-all-place.is c.read_frame-read.ensures.net

pub send_part-sent-requires-clause-own : goal.send_part-sent-requires-clause-own
send_part-sent-requires-clause-own c = own_noted c.args.agent c.args.net.now c.args.all.now c.args.place c.in-Some.other c.index-all-place.result c.index-all-other.result c.index-all-place-4.result (asked c)

pub send_part-sent-requires-clause-other : goal.send_part-sent-requires-clause-other
send_part-sent-requires-clause-other c = (asked c).step.other

pub send_part-sent-requires-clause-within : goal.send_part-sent-requires-clause-within
send_part-sent-requires-clause-within c = sent_within c.args.agent c.args.net.now c.args.all.now c.args.place c.in-Some.other c.index-all-place.result c.index-all-other.result c.index-all-place-4.result (asked c)

pub send_part-sent-requires-clause-flows : goal.send_part-sent-requires-clause-flows
send_part-sent-requires-clause-flows c =
    still_flows c.args.agent c.args.net.now c.args.all.now c.args.place c.in-Some.other c.index-all-place.result c.index-all-other.result c.index-all-place-4.result
    c.read_frame-read.new.net.channels (asked c) (asked_net c)

added : (c : goal.After-index-all-place-5) → Taken c.args.agent c.args.net.now c.args.all.now c.args.place c.in-Some.other c.index-all-place.result c.index-all-other.result c.index-all-place-4.result
added c =
    taken c.args.agent c.args.net.now c.args.all.now c.args.place c.in-Some.other c.index-all-place.result c.index-all-place-2.result c.index-all-place-3.result c.index-all-other.result
    c.read_frame-read.new.notes c.index-all-place-4.result c.reverse_of.result c.requires.fits c.requires.within c.in-Some.ensures.within c.index-all-place.is
    (sym c.is_agent.ensures ∙ c.if-not-is_agent.false) c.reverse_of.ensures c.in-Some.ensures.found c.read_frame-read.ensures.notes c.index-all-place-4.is c.index-all-other.is

added_net : (c : goal.After-index-all-place-5) → c.read_frame-read.new.net.channels ≡ channels_read c.args.agent c.index-all-place.result c.args.net.now.channels
added_net c =
    channels_here c.args.agent c.args.net.now c.read_frame-read.new.net c.args.all.now c.args.place c.index-all-place.result c.index-all-place-3.result c.requires.within c.index-all-place.is c.read_frame-read.ensures.net

pub overflow_add-all : goal.overflow_add-all
overflow_add-all c =
    let few = sum_few c.args.agent c.args.net.now c.args.all.now c.args.place c.in-Some.other c.index-all-place.result c.index-all-other.result c.index-all-place-4.result
    c.read_frame-read.new.net.channels c.send_part-sent.result (added c) (added_net c) c.send_part-sent.ensures.count in
    let same = ap (λ (z : DirNotes). z.sent) (again_item c.args.all.now c.args.place c.read_frame-read.new.notes c.index-all-place-4.result c.index-all-place-5.result c.requires.within c.index-all-place-4.is) in
    omega (arith, few, same)

-- ---- it has read

then_taken : (c : goal.Then-read-gt0) → Taken c.args.agent c.args.net.now c.args.all.now c.args.place c.in-Some.other c.index-all-place.result c.index-all-other.result c.index-all-place-4.result
then_taken c =
    taken c.args.agent c.args.net.now c.args.all.now c.args.place c.in-Some.other c.index-all-place.result c.index-all-place-2.result c.index-all-place-3.result c.index-all-other.result
    c.read_frame-read.new.notes c.index-all-place-4.result c.reverse_of.result c.requires.fits c.requires.within c.in-Some.ensures.within c.index-all-place.is
    (sym c.is_agent.ensures ∙ c.if-not-is_agent.false) c.reverse_of.ensures c.in-Some.ensures.found c.read_frame-read.ensures.notes c.index-all-place-4.is c.index-all-other.is

then_net : (c : goal.Then-read-gt0) → c.read_frame-read.new.net.channels ≡ channels_read c.args.agent c.index-all-place.result c.args.net.now.channels
then_net c =
    channels_here c.args.agent c.args.net.now c.read_frame-read.new.net c.args.all.now c.args.place c.index-all-place.result c.index-all-place-3.result c.requires.within c.index-all-place.is c.read_frame-read.ensures.net

then_read : (c : goal.Then-read-gt0) → c.read_frame-read.result ≡ read_count c.args.agent c.index-all-place.result c.args.net.now.channels
then_read c =
    read_here c.args.agent c.args.net.now c.read_frame-read.new.net c.args.all.now c.args.place c.read_frame-read.result c.index-all-place.result c.index-all-place-3.result c.requires.within c.index-all-place.is
    c.read_frame-read.ensures.count

pub returns-then-read-gt0-clause-moved : goal.returns-then-read-gt0-clause-moved
returns-then-read-gt0-clause-moved c =
    moved_then c.args.agent c.args.net.now c.args.all.now c.args.place c.in-Some.other c.index-all-place.result c.index-all-other.result c.index-all-place-4.result
    c.read_frame-read.new.net.channels c.read_frame-read.result c.send_part-sent.result (then_taken c) (then_read c) (then_net c) c.send_part-sent.ensures.count c.if-read-gt0.true

pub returns-then-read-gt0-clause-after : goal.returns-then-read-gt0-clause-after
returns-then-read-gt0-clause-after c =
    after_is c.args.agent c.args.net.now c.args.all.now c.args.place c.in-Some.other c.index-all-place.result c.index-all-other.result c.read_frame-read.new.notes c.index-all-place-4.result
    c.read_frame-read.new.net c.send_part-sent.new.net c.send_part-sent.result c.index-all-place-6.result c.index-all-place-5.result (then_taken c) (then_net c) c.index-all-place-4.is c.send_part-sent.ensures.count
    c.send_part-sent.ensures.net

-- ---- it has read nothing

else_taken : (c : goal.Else-read-gt0) → Taken c.args.agent c.args.net.now c.args.all.now c.args.place c.in-Some.other c.index-all-place.result c.index-all-other.result c.index-all-place-4.result
else_taken c =
    taken c.args.agent c.args.net.now c.args.all.now c.args.place c.in-Some.other c.index-all-place.result c.index-all-place-2.result c.index-all-place-3.result c.index-all-other.result
    c.read_frame-read.new.notes c.index-all-place-4.result c.reverse_of.result c.requires.fits c.requires.within c.in-Some.ensures.within c.index-all-place.is
    (sym c.is_agent.ensures ∙ c.if-not-is_agent.false) c.reverse_of.ensures c.in-Some.ensures.found c.read_frame-read.ensures.notes c.index-all-place-4.is c.index-all-other.is

else_net : (c : goal.Else-read-gt0) → c.read_frame-read.new.net.channels ≡ channels_read c.args.agent c.index-all-place.result c.args.net.now.channels
else_net c =
    channels_here c.args.agent c.args.net.now c.read_frame-read.new.net c.args.all.now c.args.place c.index-all-place.result c.index-all-place-3.result c.requires.within c.index-all-place.is c.read_frame-read.ensures.net

else_read : (c : goal.Else-read-gt0) → c.read_frame-read.result ≡ read_count c.args.agent c.index-all-place.result c.args.net.now.channels
else_read c =
    read_here c.args.agent c.args.net.now c.read_frame-read.new.net c.args.all.now c.args.place c.read_frame-read.result c.index-all-place.result c.index-all-place-3.result c.requires.within c.index-all-place.is
    c.read_frame-read.ensures.count

pub returns-else-read-gt0-clause-moved : goal.returns-else-read-gt0-clause-moved
returns-else-read-gt0-clause-moved c =
    moved_else c.args.agent c.args.net.now c.args.all.now c.args.place c.in-Some.other c.index-all-place.result c.index-all-other.result c.index-all-place-4.result
    c.read_frame-read.new.net.channels c.read_frame-read.result c.send_part-sent.result (else_taken c) (else_read c) (else_net c) c.send_part-sent.ensures.count c.if-read-gt0.false

pub returns-else-read-gt0-clause-after : goal.returns-else-read-gt0-clause-after
returns-else-read-gt0-clause-after c =
    after_is c.args.agent c.args.net.now c.args.all.now c.args.place c.in-Some.other c.index-all-place.result c.index-all-other.result c.read_frame-read.new.notes c.index-all-place-4.result
    c.read_frame-read.new.net c.send_part-sent.new.net c.send_part-sent.result c.index-all-place-6.result c.index-all-place-5.result (else_taken c) (else_net c) c.index-all-place-4.is c.send_part-sent.ensures.count
    c.send_part-sent.ensures.net
