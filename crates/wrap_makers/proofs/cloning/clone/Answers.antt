use Rattle.std.proofs.Common.{sym, ◌∙◌}
use Rattle.std.proofs.lemmas.Option.{none-some}
use Rattle.wrap_names.proofs.Callers.{caller_there}
use Rattle.wrap_makers.proofs.Told.{no_form, no_number, not_made, made}
use Rattle.wrap_makers.proofs.cloning.clone.Goals as goal

pub returns-in_default : goal.returns-in_default
returns-in_default c =
    no_form c.args.system.now c.args.next_id.now c.args.stood.now.kernel c.requires.wrapped
    c.args.p c.args.t.0 c.args.request.now c.args.transfer.now c.requires.asked c.requires.family
    c.flags_in-flags.result c.flags_in-flags.ensures (sym c.clone_form.ensures ∙ c.in_default.is)

pub returns-then-number-ge-LAST_ID : goal.returns-then-number-ge-LAST_ID
returns-then-number-ge-LAST_ID c =
    no_number c.args.system.now c.args.next_id.now c.args.stood.now.kernel c.requires.wrapped
    c.args.p c.args.t.0 c.args.request.now c.args.transfer.now c.requires.asked c.requires.family
    c.flags_in-flags.result c.flags_in-flags.ensures c.in-Some.form (sym c.clone_form.ensures ∙ c.in-Some.is)
    c.if-number-ge-LAST_ID.true

pub unreachable-requires : goal.unreachable-requires
unreachable-requires c =
    let there = caller_there c.args.system.now c.args.next_id.now c.args.stood.now.kernel c.requires.wrapped
    c.args.p c.args.t.0 c.args.request.now c.args.transfer.now c.requires.asked in
    none-some there.0 (sym c.in_default-caller_of.is ∙ c.caller_of.ensures ∙ there.1)

pub returns-then-not-is_done : goal.returns-then-not-is_done
returns-then-not-is_done c =
    not_made c.args.system.now c.args.next_id.now c.args.stood.now.kernel c.requires.wrapped
    c.args.p c.args.t.0 c.args.request.now c.args.transfer.now c.requires.asked c.requires.family
    c.flags_in-flags.result c.flags_in-flags.ensures c.in-Some.form (sym c.clone_form.ensures ∙ c.in-Some.is)
    c.start-reply.new.system c.start-reply.result c.start-reply.ensures
    (sym c.is_done.ensures ∙ c.if-not-is_done.true)

pub returns : goal.returns
returns c =
    made c.args.system.now c.args.next_id.now c.args.stood.now.kernel c.requires.wrapped
    c.args.p c.args.t.0 c.args.request.now c.args.transfer.now c.requires.asked c.requires.family
    c.flags_in-flags.result c.flags_in-flags.ensures c.in-Some.form (sym c.clone_form.ensures ∙ c.in-Some.is)
    c.start-reply.new.system c.start-reply.result c.start-reply.ensures
    (sym c.is_done.ensures ∙ c.if-not-is_done.false)
    c.tell_number.new.transfer c.tell_number.ensures
