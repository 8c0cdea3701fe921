use Rattle.computation.specs.Computations.{plain_of}
use Rattle.computation.proofs.MissingWalk.{passed_none, fewer, missing_here, none_here, nothing_left}
use Rattle.computation.proofs.computation.Computation.first_missing.Goals as goal

pub loop-dir-init : goal.loop-dir-init
loop-dir-init c = passed_none (plain_of c.args.self.now)

pub loop-dir-smaller : goal.loop-dir-smaller
loop-dir-smaller c =
    fewer (plain_of c.args.self.now) c.loop-dir.above c.loop-dir.invariant c.in-Some.dir c.in-Some.ensures

pub loop-dir-preserved : goal.loop-dir-preserved
loop-dir-preserved c =
    none_here (plain_of c.args.self.now) c.loop-dir.above c.loop-dir.invariant c.in-Some.dir c.in-Some.ensures
    c.missing.result c.missing.ensures c.if-missing-gt0.false

pub returns-then-missing-gt0-clause-some : goal.returns-then-missing-gt0-clause-some
returns-then-missing-gt0-clause-some c =
    missing_here (plain_of c.args.self.now) c.loop-dir.above c.loop-dir.invariant c.in-Some.dir c.in-Some.ensures
    c.missing.result c.missing.ensures c.if-missing-gt0.true

pub returns-clause-none : goal.returns-clause-none
returns-clause-none c = λ _.
    nothing_left (plain_of c.args.self.now) c.loop-dir.above c.loop-dir.invariant c.in_default.ensures
