use Rattle.std.specs.Prelude.{Result, List, ℕ}
use Rattle.endings.specs.declared.ending.Ending.{Ending}
use Rattle.endings.specs.declared.ending.Ending.TheVariants.{Memory}
use Rattle.dmtcp_top.specs.RingEndings.{HalfEnds, half_outside}
use Rattle.dmtcp_top.proofs.RingRuns.{half_done, memory_then, raised}
use Rattle.dmtcp_top.proofs.ring.half.Goals as goal

pub returns-in_err-content_of-clause-ends : goal.returns-in_err-content_of-clause-ends
returns-in_err-content_of-clause-ends g c words asks =
    let trace = c.carry_out.new.trace.records in
    let before = half_outside (g.L.Sink.seen c.args.log.now) (g.F.Folder.seen c.args.disk.now) in
    let now = half_outside (g.L.Sink.seen c.carry_out.new.log) (g.F.Folder.seen c.carry_out.new.disk) in
    raised (λ (r : Result (List ℕ) Ending). HalfEnds r words trace before now) c.from_residual-in_err-content_of.result Memory c.from_residual-in_err-content_of.ensures.1
    (memory_then c.in_ok-system.system words trace before now (c.in_ok-system.ensures.ends words asks))

pub returns-clause-ends : goal.returns-clause-ends
returns-clause-ends g c words asks =
    let trace = c.carry_out.new.trace.records in
    let before = half_outside (g.L.Sink.seen c.args.log.now) (g.F.Folder.seen c.args.disk.now) in
    let now = half_outside (g.L.Sink.seen c.carry_out.new.log) (g.F.Folder.seen c.carry_out.new.disk) in
    half_done c.in_ok-system.system c.in_ok-content_of.field-0 words trace before now (c.in_ok-system.ensures.ends words asks) c.in_ok-content_of.ensures
