use Rattle.std.proofs.Common.{refl, sym, ap, ◌∙◌}
use Rattle.std.specs.Prelude.{find}
use Rattle.std.specs.FinMap as map
use Rattle.wrap_calls.specs.Directions.{is_above}
use Rattle.wrap_calls.proofs.DirectionKeys.{keys_are, none_above, side_one, conn_above, first_side}
use Rattle.wrap_calls.proofs.directions.next_dir.Goals as goal

pub returns-in_default : goal.returns-in_default
returns-in_default c k next_id w =
    let s = c.args.system.now in
    c.first_dir.ensures ∙ sym (none_above s.conns.conns k.directions (keys_are s next_id k w) _ refl)
    ∙ ap (λ a. find (is_above a) (map.keys k.directions)) (sym c.in_default.is)

pub returns-then-is_first_side : goal.returns-then-is_first_side
returns-then-is_first_side c k next_id w =
    let s = c.args.system.now in
    let first = first_side s.conns.conns c.in-Some.last
    (sym c.is_first_side.ensures ∙ c.if-is_first_side.true) in
    sym (side_one s.conns.conns k.directions (keys_are s next_id k w) c.in-Some.last first.0 first.1)
    ∙ ap (λ a. find (is_above a) (map.keys k.directions)) (sym c.in-Some.is)

pub returns : goal.returns
returns c k next_id w =
    let s = c.args.system.now in
    c.first_dir-2.ensures
    ∙ sym (conn_above s.conns.conns k.directions (keys_are s next_id k w) c.in-Some.last
    (sym c.is_first_side.ensures ∙ c.if-is_first_side.false) _ refl)
    ∙ ap (λ a. find (is_above a) (map.keys k.directions)) (sym c.in-Some.is)
