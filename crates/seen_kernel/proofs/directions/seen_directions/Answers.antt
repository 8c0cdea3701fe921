use Rattle.std.proofs.Common.{◌<◌, ◌≤◌, ◌+◌, ◌∷◌, length, drop, sym, ap, ◌∙◌, arith}
use Rattle.std.specs.FinMap as map
use Rattle.std.proofs.lemmas.List.{drop_all, drop_more}
use Rattle.seen_kernel.specs.Directions.{with_lists}
use Rattle.seen_kernel.proofs.SeenDirections.{lists_on, lists_none, lists_done}
use Rattle.seen_kernel.proofs.directions.seen_directions.Goals as goal

pub loop-list-preserved : goal.loop-list-preserved
loop-list-preserved c =
    let test = c.loop-list-test.true in
    let end = c.loop-list.auto.list-index-end in
    let inside : c.loop-list.list-index < length c.args.lists.now = omega (arith, test, end) in
    ap (λ seen. with_lists c.args.net.now.channels seen (drop (c.loop-list.list-index + 1) c.args.lists.now))
    c.in_ok-add_direction.ensures.ok
    ∙ lists_on c.args.net.now.channels c.loop-list.seen
    (with_lists c.args.net.now.channels map.empty c.args.lists.now) c.list-item.result
    (drop c.loop-list.list-index c.args.lists.now) (drop (c.loop-list.list-index + 1) c.args.lists.now)
    (drop_more c.args.lists.now c.loop-list.list-index c.list-item.result inside
    ∙ ap (λ list. list ∷ drop (c.loop-list.list-index + 1) c.args.lists.now) (sym c.list-item.is))
    c.loop-list.invariant

pub returns : goal.returns
returns c held directions same have =
    let test = c.loop-list-test.false in
    let end = c.loop-list.auto.list-index-end in
    let past : length c.args.lists.now ≤ c.loop-list.list-index = omega (arith, test, end) in
    sym (lists_none c.args.net.now.channels c.loop-list.seen)
    ∙ sym (ap (with_lists c.args.net.now.channels c.loop-list.seen)
    (drop_all c.loop-list.list-index c.args.lists.now past))
    ∙ c.loop-list.invariant
    ∙ lists_done c.args.net.now held directions same c.args.lists.now have
