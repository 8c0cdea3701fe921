use Rattle.std.proofs.Common.{Some, None, sym, ap, subst, ◌∙◌}
use Rattle.std.specs.Option.{option_map_or}
use Rattle.std.specs.FinMap as map
use Rattle.seen_kernel.proofs.SeenDescriptions.{DescriptionsTo, descriptions_begun, descriptions_on, descriptions_fewer, descriptions_done}
use Rattle.seen_kernel.proofs.descriptions.seen_descriptions.Goals as goal

pub loop-id-init : goal.loop-id-init
loop-id-init c =
    subst (λ seen. DescriptionsTo c.args.ids.now c.args.conns.now.names c.args.book.now c.args.owners.now seen
    None) (sym c.new-seen.ensures)
    (descriptions_begun c.args.ids.now c.args.conns.now.names c.args.book.now c.args.owners.now)

pub loop-id-preserved : goal.loop-id-preserved
loop-id-preserved c =
    subst (λ seen. DescriptionsTo c.args.ids.now c.args.conns.now.names c.args.book.now c.args.owners.now seen
    (Some c.in-Some.id))
    (sym (c.in_ok-add_description.ensures
    ∙ ap (λ o. option_map_or (map.insert c.loop-id.seen c.in-Some.id) o c.loop-id.seen)
    c.seen_description.ensures))
    (descriptions_on c.args.ids.now c.args.conns.now.names c.args.book.now c.args.owners.now c.loop-id.seen
    c.loop-id.above c.in-Some.id (sym c.in-Some.ensures) c.loop-id.invariant)

pub loop-id-smaller : goal.loop-id-smaller
loop-id-smaller c =
    descriptions_fewer c.args.ids.now c.args.conns.now.names c.args.book.now c.args.owners.now c.loop-id.seen
    c.loop-id.above c.in-Some.id (sym c.in-Some.ensures)

pub returns : goal.returns
returns c =
    descriptions_done c.args.ids.now c.args.conns.now.names c.args.book.now c.args.owners.now c.loop-id.seen
    c.loop-id.above (sym c.in_default.ensures) c.loop-id.invariant
