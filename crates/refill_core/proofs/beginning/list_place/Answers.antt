use Rattle.std.proofs.Common.{Bool, ap, sym, ◌∙◌}
use Rattle.std.specs.Ordering.{is_eq, eq_by_cmp}
use Rattle.sys_abi.specs.declared.identity.Dir.{Dir}
use Rattle.sys_abi.specs.Orders.{dir_cmp}
use Rattle.wire_net.specs.declared.cut_room.DirBytes.{DirBytes}
use Rattle.wire_net.proofs.Finding.{found_here, further, found_none}
use Rattle.refill_core.proofs.beginning.list_place.Goals as goal

abbrev is_on : Dir → DirBytes → Bool
is_on d list = eq_by_cmp dir_cmp list.dir d

pub returns-then-is_eq-clause-found : goal.returns-then-is_eq-clause-found
returns-then-is_eq-clause-found c =
    found_here (is_on c.args.d) c.args.lists.now c.loop-place.place c.index-lists-place.result c.loop-place-test.true c.index-lists-place.is c.loop-place.invariant
    (ap (is_on c.args.d) c.index-lists-place.is ∙ ap is_eq (sym c.cmp.ensures) ∙ sym c.is_eq.ensures ∙ c.if-is_eq.true)

pub loop-place-preserved : goal.loop-place-preserved
loop-place-preserved c = further (is_on c.args.d) c.args.lists.now c.loop-place.place c.index-lists-place.result c.loop-place-test.true c.index-lists-place.is c.loop-place.invariant
    (ap (is_on c.args.d) c.index-lists-place.is ∙ ap is_eq (sym c.cmp.ensures) ∙ sym c.is_eq.ensures ∙ c.if-is_eq.false)

pub returns-clause-found : goal.returns-clause-found
returns-clause-found c = found_none (is_on c.args.d) c.args.lists.now c.loop-place.place c.loop-place-test.false c.loop-place.invariant
