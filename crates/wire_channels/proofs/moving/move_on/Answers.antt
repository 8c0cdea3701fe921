use Rattle.std.proofs.Common.{length, sym, ap, subst, ◌∙◌}
use Rattle.std.specs.Prelude.{min}
use Rattle.std.specs.Option.{option_map}
use Rattle.std.specs.FinMap as map
use Rattle.virt_ids.proofs.OfViews.Outcomes.{on_some}
use Rattle.wire_channels.specs.Directions.{after_move}
use Rattle.wire_channels.specs.Channels.{direction_of, at_side}
use Rattle.wire_channels.specs.Frames.{SameFrames}
use Rattle.wire_channels.specs.Answers.{bytes_on}
use Rattle.virt_ids.proofs.Lends.{changed-found}
use Rattle.wire_channels.proofs.KeptFrames.{frames_kept, moves_keep, none_moved}
use Rattle.wire_channels.proofs.moving.move_on.Goals as goal

pub returns-clause-moved : goal.returns-clause-moved
returns-clause-moved c =
    c.move_bytes.ensures.moved ∙ ap (λ found. min c.args.n (length (bytes_on c.args.from (option_map (direction_of c.args.d.side) found)))) c.in-Some.ensures.value

pub returns-clause-after : goal.returns-clause-after
returns-clause-after c =
    on_some c.in-Some.is (c.get_mut.follows.holds c.move_bytes.new.self) ∙ ap (map.insert c.args.channels.now c.args.d.conn) c.move_bytes.ensures.after
    ∙ changed-found c.args.channels.now c.args.d.conn (at_side c.args.d.side (after_move c.args.from c.args.n)) c.in-Some.channel.now c.in-Some.ensures.value

pub returns-clause-frame : goal.returns-clause-frame
returns-clause-frame c =
    subst (SameFrames c.args.channels.now) (sym (returns-clause-after c)) (frames_kept c.args.channels.now c.args.d (after_move c.args.from c.args.n) (moves_keep c.args.from c.args.n))

pub returns-clause-still : goal.returns-clause-still
returns-clause-still c = λ none. returns-clause-after c ∙ none_moved c.args.channels.now c.args.d c.args.from c.args.n (sym (returns-clause-moved c) ∙ none)
