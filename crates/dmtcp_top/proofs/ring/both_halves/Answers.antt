use Rattle.std.proofs.Common.{◌≡◌, None, sym, ap, subst, ◌∙◌}
use Rattle.std.specs.Prelude.{Result, IfErr}
use Rattle.views.specs.Faults.{Rose}
use Rattle.job_words.specs.declared.job.Job.{Job}
use Rattle.job_words.specs.declared.job.RingJob.{RingJob}
use Rattle.job_words.specs.Commands.{words_of_command}
use Rattle.endings.specs.declared.status.Status.TheVariants.{DiskFault}
use Rattle.endings.specs.declared.ending.Ending.{Ending}
use Rattle.endings.specs.Endings.{status_of}
use Rattle.edge_io.specs.Sunk.{sunk}
use Rattle.launch_start.specs.RingJobs.{launch_of, restart_of}
use Rattle.dmtcp_top.specs.declared.ring.Values.{Values}
use Rattle.dmtcp_top.specs.Jobs.{Asks, settings_of}
use Rattle.dmtcp_top.specs.RingEndings.{AreHalves, HalvesEnd}
use Rattle.dmtcp_top.proofs.RingHalves.{first_stops, second_stops, both_done}
use Rattle.dmtcp_top.proofs.RingRuns.{raised, rose_then}
use Rattle.dmtcp_top.proofs.ring.both_halves.Goals as goal

module _ (ring : RingJob) (launch restart : Job) (are : AreHalves ring launch restart) where
  launch_asks : Asks (words_of_command (launch_of ring)) launch
  launch_asks = subst (Asks (words_of_command (launch_of ring))) (sym are.launch_is) are.launches

  restart_asks : Asks (words_of_command (restart_of ring)) restart
  restart_asks = subst (Asks (words_of_command (restart_of ring))) (sym are.restart_is) are.restarts

  no_checkpoints : (settings_of restart).every ≡ None
  no_checkpoints = ap (λ (job : Job). (settings_of job).every) are.restart_is ∙ are.quiet

pub returns-in_err-launched-clause-ends : goal.returns-in_err-launched-clause-ends
returns-in_err-launched-clause-ends g c ring are =
    let trace = c.half.new.trace.records in
    let old = g.F.Folder.seen c.args.disk.now in
    let new = g.F.Folder.seen c.half.new.disk in
    let had = g.L.Sink.seen c.args.log.now in
    let has = g.L.Sink.seen c.half.new.log in
    let launch = c.args.launch.now in
    let restart = c.args.restart.now in
    raised (λ (r : Result Values Ending). HalvesEnd r ring trace old new (sunk had.taken has.taken)) c.from_residual.result c.in_err-launched.field-0.0 c.from_residual.ensures.1
    (λ console quiet. first_stops ring launch restart are old new had has trace console quiet c.in_err-launched.field-0.0
    (c.in_err-launched.ensures.ends (words_of_command (launch_of ring)) (launch_asks ring launch restart are)) c.in_err-launched.ensures.input)

pub returns-in_err-restarted-clause-ends : goal.returns-in_err-restarted-clause-ends
returns-in_err-restarted-clause-ends g c ring are =
    let trace = c.half-2.new.trace.records in
    let old = g.F.Folder.seen c.args.disk.now in
    let mid = g.F.Folder.seen c.half.new.disk in
    let new = g.F.Folder.seen c.half-2.new.disk in
    let had = g.L.Sink.seen c.args.log.now in
    let amid = g.L.Sink.seen c.half.new.log in
    let has = g.L.Sink.seen c.half-2.new.log in
    let launch = c.args.launch.now in
    let restart = c.args.restart.now in
    let done = c.in_ok-launched.ensures.ends (words_of_command (launch_of ring)) (launch_asks ring launch restart are) in
    raised (λ (r : Result Values Ending). HalvesEnd r ring trace old new (sunk had.taken has.taken)) c.from_residual-in_err-restarted.result c.in_err-restarted.field-0.0 c.from_residual-in_err-restarted.ensures.1
    (λ console quiet. second_stops ring launch restart are old mid new had amid has c.half.new.trace.records trace done.come
    (c.in_err-restarted.ensures.looks (no_checkpoints ring launch restart are)) console quiet c.in_err-restarted.field-0.0
    (c.in_err-restarted.ensures.ends (words_of_command (restart_of ring)) (restart_asks ring launch restart are)))

pub returns-in_err-restarted-clause-disk : goal.returns-in_err-restarted-clause-disk
returns-in_err-restarted-clause-disk g c =
    let old = g.F.Folder.seen c.args.disk.now in
    let mid = g.F.Folder.seen c.half.new.disk in
    let new = g.F.Folder.seen c.half-2.new.disk in
    let ring = c.requires.halves.0 in
    let are = c.requires.halves.1 in
    let launch = c.args.launch.now in
    let restart = c.args.restart.now in
    let done = c.in_ok-launched.ensures.ends (words_of_command (launch_of ring)) (launch_asks ring launch restart are) in
    raised (λ (r : Result Values Ending). IfErr r (λ ending. status_of ending ≡ DiskFault → Rose old.faults new.faults)) c.from_residual-in_err-restarted.result c.in_err-restarted.field-0.0 c.from_residual-in_err-restarted.ensures.1
    (λ failed. rose_then c.half.new.trace.records old mid new done.come.whole.counted (c.in_err-restarted.ensures.looks (no_checkpoints ring launch restart are)) (c.in_err-restarted.ensures.disk failed))

pub returns-clause-ends : goal.returns-clause-ends
returns-clause-ends g c ring are =
    let trace = c.half-2.new.trace.records in
    let old = g.F.Folder.seen c.args.disk.now in
    let mid = g.F.Folder.seen c.half.new.disk in
    let new = g.F.Folder.seen c.half-2.new.disk in
    let had = g.L.Sink.seen c.args.log.now in
    let amid = g.L.Sink.seen c.half.new.log in
    let has = g.L.Sink.seen c.half-2.new.log in
    let launch = c.args.launch.now in
    let restart = c.args.restart.now in
    let first = c.in_ok-launched.ensures.ends (words_of_command (launch_of ring)) (launch_asks ring launch restart are) in
    let second = c.in_ok-restarted.ensures.ends (words_of_command (restart_of ring)) (restart_asks ring launch restart are) in
    both_done ring launch restart are old mid new had amid has c.half.new.trace.records trace first.come (c.in_ok-restarted.ensures.looks (no_checkpoints ring launch restart are))
    (record { launched = c.in_ok-launched.launched; restarted = c.in_ok-restarted.restarted }) second.come first.value second.value
