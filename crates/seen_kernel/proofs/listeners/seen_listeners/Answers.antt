use Rattle.std.proofs.Common.{sym, ap, ◌∙◌}
use Rattle.std.specs.FinMap as map
use Rattle.seen_kernel.specs.Listeners.{with_descriptions}
use Rattle.seen_kernel.proofs.SeenListeners.{descriptions_on, descriptions_none, listeners_done}
use Rattle.seen_kernel.proofs.listeners.seen_listeners.Goals as goal

pub loop-description-preserved : goal.loop-description-preserved
loop-description-preserved c =
    ap (λ seen. with_descriptions c.args.net.now.listeners c.args.ids.now.addresses seen c.next.new.self)
    c.in_ok-add_object.ensures.ok
    ∙ descriptions_on c.args.net.now.listeners c.args.ids.now.addresses c.loop-description.seen
    (with_descriptions c.args.net.now.listeners c.args.ids.now.addresses map.empty
    (map.values c.args.descriptions.now)) c.in-Some.description.now
    c.loop-description.description-iterator c.next.new.self c.in-Some.ensures.steps
    c.loop-description.invariant

pub returns : goal.returns
returns c nodes channels listeners same valid =
    sym (descriptions_none c.args.net.now.listeners c.args.ids.now.addresses c.loop-description.seen)
    ∙ sym (ap (with_descriptions c.args.net.now.listeners c.args.ids.now.addresses c.loop-description.seen)
    c.in-None.ensures.steps.0)
    ∙ c.loop-description.invariant
    ∙ listeners_done nodes c.args.ids.now.addresses c.args.ids.now.ports listeners channels
    c.args.net.now.listeners c.args.descriptions.now same valid
