use Rattle.std.proofs.Common.{sym, ap, ◌∙◌, arith}
use Rattle.sys_abi.specs.Signals.{with_signal}
use Rattle.proc_book.specs.Ends.{Processes}
use Rattle.proc_book.specs.Procs.{ProcTable, after_raise}
use Rattle.rebuild_processes.specs.Making.{with_set}
use Rattle.rebuild_processes.proofs.SignalBits.{part_none, step_with, step_without, made_all}
use Rattle.rebuild_processes.proofs.RaisedSets.{none_made, one_more}
use Rattle.virt_ids.specs.Changes.{at_key}
use Rattle.rebuild_processes.proofs.signals.raise_set.Goals.{then-has_signal, else-has_signal}
use Rattle.rebuild_processes.proofs.signals.raise_set.Goals as goal

pub loop-s-init : goal.loop-s-init
loop-s-init c = record {
  made = 0;
  part = part_none c.args.set;
  positive = omega arith;
  so_far = ap (λ (m : Processes). record c.args.procs.now { processes = m })
      (sym (none_made c.args.procs.now.processes c.args.r c.args.t c.requires.alive c.requires.none));
}

pub loop-s-preserved : goal.loop-s-preserved
loop-s-preserved c =
    let before = c.loop-s.invariant in
    let low = before.positive in
    elim c.if-has_signal.branch [
      | then-has_signal w ↦ record {
        made = with_signal before.made c.loop-s.s;
        part = step_with c.args.set before.made c.loop-s.s low c.loop-s-test.true before.part
            (sym c.has_signal.ensures ∙ w.if-has_signal.true);
        positive = omega (arith, low);
        so_far = w.procs-is ∙ w.raise.ensures.raised
            ∙ ap (λ (q : ProcTable).
            record q { processes = after_raise q.processes c.args.r c.args.t c.loop-s.s }) before.so_far
            ∙ ap (λ (m : Processes). record c.args.procs.now { processes = m })
            (one_more c.args.procs.now.processes c.args.r c.args.t c.requires.alive before.made c.loop-s.s);
      }
      | else-has_signal w ↦ record {
        made = before.made;
        part = step_without c.args.set before.made c.loop-s.s low c.loop-s-test.true before.part
            (sym c.has_signal.ensures ∙ w.if-has_signal.false);
        positive = omega (arith, low);
        so_far = w.procs-is ∙ before.so_far;
      }
    ]

pub returns : goal.returns
returns c =
    let last = c.loop-s.invariant in
    last.so_far
    ∙ ap (λ n. record c.args.procs.now {
      processes = at_key c.args.procs.now.processes c.args.r (with_set c.args.t n);
    }) (made_all c.args.set last.made c.loop-s.s c.requires.small c.loop-s-test.false last.part)
