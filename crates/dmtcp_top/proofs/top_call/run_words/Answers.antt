use Rattle.std.proofs.Common.{◌≡◌, ◌≢◌, inl, inr, map, string_bytes, refl, sym, subst, ◌∙◌, arith}
use Rattle.std.specs.Prelude.{◌⊎◌}
use Rattle.job_words.specs.declared.job.Job.TheVariants.{Ring, Help}
use Rattle.job_words.specs.declared.job.RingJob.{RingJob}
use Rattle.endings.specs.declared.status.Status.{Status}
use Rattle.endings.specs.declared.status.Status.TheVariants.{Usage, InputFault, SinkFault, DiskFault, Memory}
use Rattle.endings.specs.Endings.{status_of}
use Rattle.dmtcp_top.specs.Jobs.{IsOneRun}
use Rattle.dmtcp_top.specs.Sessions.{outside}
use Rattle.dmtcp_top.specs.Ring.{IsRing}
use Rattle.dmtcp_top.proofs.Commands.{not_this, ring_is, same_asked}
use Rattle.dmtcp_top.proofs.Promised.{promised, refused_start, refused_status}
use Rattle.dmtcp_top.proofs.RefusedWords.{refused_ring, refused_help}
use Rattle.dmtcp_top.proofs.top_call.run_words.Goals as goal

-- it is neither of these two
neither : {P : Type 0} (status wanted : Status) → (status ≡ Usage) ⊎ (status ≡ Memory) → Usage ≢ wanted → Memory ≢ wanted → status ≡ wanted → P
neither status wanted (inl usage) no_usage no_memory is = absurd (no_usage (sym usage ∙ is))
neither status wanted (inr memory) no_usage no_memory is = absurd (no_memory (sym memory ∙ is))

pub returns-in-Err-clause-answered : goal.returns-in-Err-clause-answered
returns-in-Err-clause-answered g c =
    let words = map string_bytes c.args.words.now in
    let at = outside (g.I.Inputs.seen c.args.inputs.now) (g.O.Sink.seen c.args.out.now) (g.L.Sink.seen c.args.log.now) (g.F.Folder.seen c.args.disk.now) in
    let one_of = refused_status c.in-Err.ending words c.in-Err.ensures.refused in
    record {
      run = λ one.
          promised c.in-Err.ending c.conclude.result words c.args.trace.now.records at at (g.L.Sink.seen c.conclude.new.log) c.conclude.ensures.concludes
          (refused_start c.in-Err.ending words c.args.trace.now.records at c.requires c.in-Err.ensures.refused)
          (neither (status_of c.in-Err.ending) InputFault one_of (λ e. absurd (cc)) (λ e. absurd (cc)))
          (neither (status_of c.in-Err.ending) SinkFault one_of (λ e. absurd (cc)) (λ e. absurd (cc)))
          (neither (status_of c.in-Err.ending) DiskFault one_of (λ e. absurd (cc)) (λ e. absurd (cc)))
          c.conclude.ensures.cause refl (omega arith);
      ring = λ ring asks.
          refused_ring c.conclude.result words ring asks c.args.trace.now.records c.requires
          (g.I.Inputs.seen c.args.inputs.now) (g.O.Sink.seen c.args.out.now) (g.L.Sink.seen c.args.log.now) (g.L.Sink.seen c.conclude.new.log) (g.F.Folder.seen c.args.disk.now)
          c.in-Err.ending c.in-Err.ensures.refused c.conclude.ensures.concludes c.conclude.ensures.cause;
      help = λ asks. refused_help c.in-Err.ending words asks c.in-Err.ensures.refused;
    }

pub returns-in-Ring-clause-answered : goal.returns-in-Ring-clause-answered
returns-in-Ring-clause-answered g c =
    let words = map string_bytes c.args.words.now in
    let inputs = g.I.Inputs.seen c.args.inputs.now in
    let before = outside inputs (g.O.Sink.seen c.args.out.now) (g.L.Sink.seen c.args.log.now) (g.F.Folder.seen c.args.disk.now) in
    let after = outside inputs (g.O.Sink.seen c.run_ring.new.out) (g.L.Sink.seen c.run_ring.new.log) (g.F.Folder.seen c.run_ring.new.disk) in
    record {
      run = λ one. absurd (subst IsOneRun c.in-Ring.is (one c.in-Ok.job c.in-Ok.ensures.found));
      ring = λ ring asks.
          subst (λ (r : RingJob). IsRing c.run_ring.result r c.run_ring.new.trace.records before after)
          (ring_is words c.in-Ok.job c.in-Ring.ring ring c.in-Ok.ensures.found asks c.in-Ring.is) (c.run_ring.ensures inputs);
      help = λ asks.
          not_this words c.in-Ok.job (Ring c.in-Ring.ring) Help c.in-Ok.ensures.found asks c.in-Ring.is (λ e. absurd (cc));
    }

pub returns-in-Help-clause-answered : goal.returns-in-Help-clause-answered
returns-in-Help-clause-answered g c = record {
  run = λ one. absurd (subst IsOneRun c.in-Help.is (one c.in-Ok.job c.in-Ok.ensures.found));
  ring = λ ring asks.
      not_this (map string_bytes c.args.words.now) c.in-Ok.job Help (Ring ring) c.in-Ok.ensures.found asks c.in-Help.is (λ e. absurd (cc));
  help = λ asks. record {
    ends = c.tell_forms.ensures.ends;
    nothing = c.requires;
    same = refl;
    sink_failed = c.tell_forms.ensures.cause;
  };
}

pub returns-clause-answered : goal.returns-clause-answered
returns-clause-answered g c =
    let words = map string_bytes c.args.words.now in
    let found = c.in-Ok.ensures.found in
    record {
      run = λ one. c.run_job.ensures.promise words found;
      ring = λ ring asks. absurd (c.in_default.not-Ring ring (same_asked words c.in-Ok.job (Ring ring) found asks));
      help = λ asks. absurd (c.in_default.not-Help (same_asked words c.in-Ok.job Help found asks));
    }
