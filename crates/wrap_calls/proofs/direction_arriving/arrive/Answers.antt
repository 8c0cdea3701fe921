use Rattle.std.proofs.Common.{sym, ap, subst, ◌∙◌}
use Rattle.std.specs.Prelude.{min, length}
use Rattle.wire_channels.specs.Answers.{bytes_on}
use Rattle.wire_channels.specs.Channels.{direction_at}
use Rattle.wire_channels.specs.declared.place.Place.TheVariants.{Wire}
use Rattle.wire_net.specs.Networks.{Network}
use Rattle.wrap_passing.specs.OfWrapNames.Changes.{after_arrival}
use Rattle.wrap_passing.specs.OfWrapNames.Wrapping.{IsWrapped}
use Rattle.wrap_calls.proofs.ArrivedBytes.{count_passed, arrived_wrapped, two_moves}
use Rattle.wrap_calls.proofs.direction_arriving.arrive.Goals as goal

pub returns-clause-count : goal.returns-clause-count
returns-clause-count c k next_id w =
    let s = c.args.system.now in
    c.move_bytes-2.ensures.moved
    ∙ ap (λ (t : Network). min c.args.n (length (bytes_on Wire (direction_at t.channels c.args.dir))))
    c.move_bytes.ensures.after
    ∙ count_passed s next_id k w c.args.dir c.requires c.args.n

pub returns-clause-arrived : goal.returns-clause-arrived
returns-clause-arrived c k next_id w =
    let s = c.args.system.now in
    subst (λ (t : Network). IsWrapped (record s { kernel = record s.kernel { net = t } }) next_id
    (after_arrival k c.args.dir c.args.n))
    (sym (two_moves s.kernel.net c.move_bytes.new.self c.move_bytes-2.new.self c.args.dir c.args.n
    c.move_bytes.ensures.after c.move_bytes-2.ensures.after))
    (arrived_wrapped s next_id k w c.args.dir c.requires c.args.n)
