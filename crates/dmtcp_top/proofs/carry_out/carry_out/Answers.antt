use Rattle.std.proofs.Common.{◌≡◌, [], None, ap, sym, subst, ◌∙◌}
use Rattle.trace_log.specs.Trace.{TraceState}
use Rattle.endings.specs.declared.ending.Ending.TheVariants.{Memory}
use Rattle.edge_io.specs.Sunk.{sunk}
use Rattle.drive.proofs.HandedOn.{took_nothing}
use Rattle.drive.specs.Driving.{end_told}
use Rattle.dmtcp_top.specs.declared.settings.Settings.{Settings}
use Rattle.dmtcp_top.specs.Loads.{OnlyLooks}
use Rattle.dmtcp_top.specs.Sessions.{outside}
use Rattle.dmtcp_top.proofs.Arrivals.{beginning_of, memory_arrives, paced_by, unbegun_paced}
use Rattle.dmtcp_top.proofs.Carried.{from_ok, from_err, begun_arrives, begun_ready, begun_refused, carried_out, every_is_none, memory_is_other, no_disk, no_input, quiet_every, refusal_is_no_end, sink_told}
use Rattle.dmtcp_top.proofs.Decisions.{of_job}
use Rattle.dmtcp_top.proofs.Loads.{looks_none, whole_unbegun, whole_begun}
use Rattle.dmtcp_top.proofs.carry_out.carry_out.Goals as goal

pub returns-then-is_err-clause-ends : goal.returns-then-is_err-clause-ends
returns-then-is_err-clause-ends g c words asks =
    let files = (g.I.Inputs.seen c.args.inputs.now).files in
    let folder = (g.F.Folder.seen c.args.disk.now).files in
    let trace = c.reserve.new.self.records in
    let console = sunk (g.O.Sink.seen c.args.out.now).taken (g.O.Sink.seen c.args.out.now).taken in
    let log = sunk (g.L.Sink.seen c.args.log.now).taken (g.L.Sink.seen c.args.log.now).taken in
    let quiet = took_nothing (g.O.Sink.seen c.args.out.now).taken in
    let unlogged = took_nothing (g.L.Sink.seen c.args.log.now).taken in
    let same = from_err c.reserve.result c.if-is_err.ensures.value c.reserve.ensures.err in
    let none : trace ≡ [] = ap (λ (t : TraceState). t.records) same ∙ c.requires.empty in
    let at_end = memory_arrives words files folder trace console log none quiet unlogged (of_job words c.args.job.now asks) in
    record {
      come = record {
        start = None;
        there = at_end;
        pace = unbegun_paced words files folder trace console log none quiet unlogged Memory at_end;
        in_rounds = tt;
        whole = whole_unbegun trace (g.F.Folder.seen c.args.disk.now) (g.F.Folder.seen c.args.disk.now) none (looks_none (g.F.Folder.seen c.args.disk.now));
      };
      other = memory_is_other;
    }

pub returns-in-Err-clause-ends : goal.returns-in-Err-clause-ends
returns-in-Err-clause-ends g c words asks =
    let files = (g.I.Inputs.seen c.args.inputs.now).files in
    let folder = (g.F.Folder.seen c.args.disk.now).files in
    let trace = c.reserve.new.self.records in
    let console = sunk (g.O.Sink.seen c.args.out.now).taken (g.O.Sink.seen c.args.out.now).taken in
    let log = sunk (g.L.Sink.seen c.args.log.now).taken (g.L.Sink.seen c.args.log.now).taken in
    let quiet = took_nothing (g.O.Sink.seen c.args.out.now).taken in
    let unlogged = took_nothing (g.L.Sink.seen c.args.log.now).taken in
    let reserved = from_ok c.reserve.result c.if-is_err.ensures.negation c.reserve.ensures.ok in
    let none : trace ≡ [] = ap (λ (t : TraceState). t.records) reserved ∙ c.requires.empty in
    let at_end = begun_refused words files folder trace console log c.args.job.now c.in-Err.ending asks c.in-Err.ensures.begins none quiet unlogged in
    record {
      come = record {
        start = None;
        there = at_end;
        pace = unbegun_paced words files folder trace console log none quiet unlogged c.in-Err.ending at_end;
        in_rounds = tt;
        whole = whole_unbegun trace (g.F.Folder.seen c.args.disk.now) (g.F.Folder.seen c.begin.new.disk) none c.begin.ensures.looks;
      };
      other = refusal_is_no_end c.args.job.now c.in-Err.ending files folder c.in-Err.ensures.begins;
    }

pub drive-back-requires-clause-can : goal.drive-back-requires-clause-can
drive-back-requires-clause-can g c =
    begun_ready c.requires.asked.0 (g.I.Inputs.seen c.args.inputs.now).files (g.F.Folder.seen c.args.disk.now).files c.in-Ok.start c.args.job.now (g.F.Folder.seen c.begin.new.disk)
    c.requires.asked.1 c.in-Ok.ensures.begins c.in-Ok.ensures.stored

pub returns-clause-ends : goal.returns-clause-ends
returns-clause-ends g c words asks =
    let files = (g.I.Inputs.seen c.args.inputs.now).files in
    let folder = (g.F.Folder.seen c.args.disk.now).files in
    let before = outside (g.I.Inputs.seen c.args.inputs.now) (g.O.Sink.seen c.args.out.now) (g.L.Sink.seen c.args.log.now) (g.F.Folder.seen c.args.disk.now) in
    let now = outside (g.I.Inputs.seen c.begin.new.inputs) (g.O.Sink.seen c.drive-back.new.out) (g.L.Sink.seen c.drive-back.new.log) (g.F.Folder.seen c.drive-back.new.disk) in
    let trace = c.drive-back.new.trace.records in
    let console = sunk (g.O.Sink.seen c.args.out.now).taken (g.O.Sink.seen c.drive-back.new.out).taken in
    let log = sunk (g.L.Sink.seen c.args.log.now).taken (g.L.Sink.seen c.drive-back.new.log).taken in
    let begun = beginning_of c.in-Ok.start in
    let end = end_told c.drive-back.result.1 in
    let records = c.of-records.result.records in
    let reserved = from_ok c.reserve.result c.if-is_err.ensures.negation c.reserve.ensures.ok in
    let room : c.reserve.new.self.room ≡ records = ap (λ (t : TraceState). t.room) reserved in
    carried_out words trace before now begun end records c.drive-back.result.0 c.left_by.result c.left_by.ensures
    (begun_arrives words files folder trace console log end c.in-Ok.start c.args.job.now c.reserve.new.self.room records asks c.in-Ok.ensures.begins room
    (ap (λ (s : Settings). s.records) c.of-records.ensures) c.drive-back.ensures.ends)
    (paced_by words files folder trace console log begun end records c.drive-back.ensures.pace)
    c.drive-back.ensures.in_rounds
    (whole_begun begun trace (g.F.Folder.seen c.args.disk.now) (g.F.Folder.seen c.begin.new.disk) (g.F.Folder.seen c.drive-back.new.disk) c.begin.ensures.looks c.drive-back.ensures.safe)
    c.drive-back.ensures.state

pub returns-clause-input : goal.returns-clause-input
returns-clause-input g c =
    no_input _ c.left_by.result c.drive-back.result.0 (end_told c.drive-back.result.1) c.of-records.result.records c.left_by.ensures

pub returns-clause-sink : goal.returns-clause-sink
returns-clause-sink g c =
    sink_told c.left_by.result c.drive-back.result.0 c.drive-back.result.1 c.of-records.result.records c.left_by.ensures
    c.drive-back.ensures.cause

pub returns-clause-disk : goal.returns-clause-disk
returns-clause-disk g c =
    no_disk _ c.left_by.result c.drive-back.result.0 (end_told c.drive-back.result.1) c.of-records.result.records c.left_by.ensures

pub returns-clause-looks : goal.returns-clause-looks
returns-clause-looks g c quiet =
    let none = every_is_none c.args.job.now (g.I.Inputs.seen c.args.inputs.now).files (g.F.Folder.seen c.args.disk.now).files c.in-Ok.start c.in-Ok.ensures.begins quiet in
    subst (λ disk. OnlyLooks (g.F.Folder.seen c.args.disk.now) (g.F.Folder.seen disk)) (sym (c.drive-back.ensures.untouched none)) c.begin.ensures.looks

pub returns-then-is_err-clause-looks : goal.returns-then-is_err-clause-looks
returns-then-is_err-clause-looks g c quiet = looks_none (g.F.Folder.seen c.args.disk.now)

pub returns-clause-untouched : goal.returns-clause-untouched
returns-clause-untouched g c quiet =
    let none = every_is_none c.args.job.now (g.I.Inputs.seen c.args.inputs.now).files (g.F.Folder.seen c.args.disk.now).files c.in-Ok.start c.in-Ok.ensures.begins (quiet_every c.args.job.now quiet) in
    c.drive-back.ensures.untouched none ∙ c.begin.ensures.untouched quiet
