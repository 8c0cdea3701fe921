use Rattle.std.proofs.Common.{◌∙◌, sym}
use Rattle.sys_abi.specs.Signals.{has_signal}
use Rattle.sys_abi.proofs.SignalSets.{none_yet, none_more, none_below, lowest-none, lowest-first}
use Rattle.sys_abi.proofs.signals.lowest_signal.Goals as goal

pub loop-s-init : goal.loop-s-init
loop-s-init c = none_yet (has_signal c.args.set) 1

pub loop-s-preserved : goal.loop-s-preserved
loop-s-preserved c = none_more (has_signal c.args.set) 1 c.loop-s.s c.loop-s.invariant (sym c.has_signal.ensures ∙ c.if-has_signal.false)

pub returns : goal.returns
returns c = lowest-none c.args.set (none_below (has_signal c.args.set) 1 c.loop-s.s 32 c.loop-s.invariant c.loop-s-test.false)

pub returns-then-has_signal : goal.returns-then-has_signal
returns-then-has_signal c = lowest-first c.args.set c.loop-s.s c.loop-s.auto.s c.loop-s-test.true c.loop-s.invariant (sym c.has_signal.ensures ∙ c.if-has_signal.true)
