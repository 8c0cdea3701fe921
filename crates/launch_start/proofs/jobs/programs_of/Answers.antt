use Rattle.launch_start.proofs.RingWords.{programs_more}
use Rattle.launch_start.proofs.jobs.programs_of.Goals as goal

pub loop-process-preserved : goal.loop-process-preserved
loop-process-preserved c =
    programs_more c.args.processes c.loop-process.process c.loop-process.programs c.push.new.self c.in_ok-program_of.field-0 c.loop-process.invariant c.in_ok-program_of.ensures c.in_ok-push.ensures.ok
