use Rattle.std.proofs.Common.{◌∙◌, sym, ap, subst}
use Rattle.std.proofs.lemmas.List.Elements.{All-nil}
use Rattle.std.specs.Prelude.{All}
use Rattle.run_start.proofs.Listed.{Own, fewer, listed, moved, on_top, one_less, one_more}
use Rattle.run_start.proofs.listing.listed.Goals as goal

pub loop-p-init : goal.loop-p-init
loop-p-init c = record {
  same = ap (λ list. on_top list c.args.guests) c.new-list.ensures;
  left = c.requires;
  numbered = subst (All Own) (sym c.new-list.ensures) (All-nil Own);
}

pub loop-p-smaller : goal.loop-p-smaller
loop-p-smaller c = one_less c.loop-p.rest c.take_first.new.guests c.in-Some.p c.in-Some.guest c.in-Some.ensures.some.0 c.in-Some.ensures.some.1

pub loop-p-preserved : goal.loop-p-preserved
loop-p-preserved c = record {
  same = moved c.loop-p.list c.push.new.self c.loop-p.rest c.take_first.new.guests c.in-Some.p c.in-Some.guest
      c.in-Some.ensures.some.0 c.in-Some.ensures.some.1 c.in_ok-push.ensures.ok ∙ c.loop-p.invariant.same;
  left = fewer c.loop-p.rest c.take_first.new.guests c.in-Some.p c.in-Some.ensures.some.1 c.loop-p.invariant.left;
  numbered = one_more c.loop-p.list c.push.new.self c.in-Some.p c.in-Some.guest c.in_ok-push.ensures.ok
      (c.loop-p.invariant.left c.in-Some.p c.in-Some.guest c.in-Some.ensures.some.0) c.loop-p.invariant.numbered;
}

pub returns-clause-same : goal.returns-clause-same
returns-clause-same c =
    listed c.loop-p.list c.loop-p.rest c.args.guests (c.take_first.ensures.none c.in_default.is) c.loop-p.invariant.same

pub returns-clause-numbered : goal.returns-clause-numbered
returns-clause-numbered c = c.loop-p.invariant.numbered
