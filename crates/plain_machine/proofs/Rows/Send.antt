-- The laws of kill and tgkill.
use Rattle.std.proofs.Common.{◌≡◌, ℕ, true, ◌&&◌, List, refl, sym, ap, subst, arith}
use Rattle.std.specs.Prelude.{Option, Some}
use Rattle.std.specs.FinMap as map
use Rattle.plain_tables.specs.OfSysAbi.declared.identity.VPid.{VPid}
use Rattle.plain_tables.specs.OfSysAbi.declared.errors.TheConstants.{EINVAL, ESRCH}
use Rattle.plain_tables.specs.OfCallTable.declared.request.Request.TheVariants.{Kill, Tgkill}
use Rattle.plain_machine.specs.declared.kernel.PlainKernel.{PlainKernel}
use Rattle.plain_tables.specs.declared.process.Process.{Process}
use Rattle.plain_tables.specs.Tables.{pid, is_live_process, raised_at, raised_for_all}
use Rattle.plain_tables.specs.OfPlainProcess.Attempts.{need}
use Rattle.plain_machine.specs.Kernel.{is_live, is_neighbour, has_thread, after_raise, after_raise_for_all}
use Rattle.plain_machine.specs.Rows.Send.{is_above_zero, may_be_sent, kill_row, tgkill_row}
use Rattle.plain_machine.specs.Serve.{row, is_ready}
use Rattle.plain_machine.proofs.Trying.{succeeds, after}
use Rattle.plain_machine.proofs.LocalReplies.{needed}
use Rattle.plain_machine.proofs.KernelThreads.{SameProcesses, change_keeps, signals_change}
use Rattle.plain_machine.proofs.WholeChanges.{whole_raise, whole_raise_for_all, thread_in}
use Rattle.plain_machine.proofs.RowBounds.{RowLaw, row_law, quiet, stays, meets, tested}

raise_threads : (k : PlainKernel) (p : VPid) (t s : ℕ) → has_thread k p t ≡ true → SameProcesses k (after_raise k p t s)
unfolding after_raise
raise_threads k p t s there = change_keeps k p (raised_at t s) (λ process known. signals_change process t _ (thread_in t (map.get k.processes p) process known there))

for_all_threads : (k : PlainKernel) (p : VPid) (s : ℕ) → SameProcesses k (after_raise_for_all k p s)
unfolding after_raise_for_all
for_all_threads k p s = change_keeps k p (raised_for_all s) (λ process known. record { life = refl; threads = λ u. refl })

module _ (k : PlainKernel) (p : VPid) (t number s : ℕ) (given : List ℕ) where
  pub kill_law : RowLaw k p t (Kill number s) given
  unfolding row kill_row is_ready is_neighbour after_raise_for_all
  kill_law = row_law k p t (Kill number s) given (λ e. quiet t (Kill number s) _ refl)
      (after (need (is_above_zero number && may_be_sent s) EINVAL) (λ may allowed. after (need (is_neighbour k p number) ESRCH) (λ there known.
      let tests = needed _ ESRCH there known in
      let alive : is_live k (pid number) ≡ true = grind (arith, tests) in
      succeeds _ (meets k p t (Kill number s) given (after_raise_for_all k (pid number) s) 0 (λ asked. omega arith)
      (λ asked answer. stays k p t (Kill number s) given asked _ answer (whole_raise_for_all k (pid number) asked.kernel s alive) (for_all_threads k (pid number) s) (omega arith) (quiet t (Kill number s) _ refl))))))
      (tested k _ EINVAL _ (tested k _ ESRCH _ refl))

  module _ (u : ℕ) where
    pub tgkill_law : RowLaw k p t (Tgkill number u s) given
    unfolding row tgkill_row is_ready after_raise
    tgkill_law = row_law k p t (Tgkill number u s) given (λ e. quiet t (Tgkill number u s) _ refl)
        (after (need (is_above_zero number && may_be_sent s) EINVAL) (λ may allowed. after (need (is_neighbour k p number && has_thread k (pid number) u) ESRCH) (λ there known.
        let tests = needed _ ESRCH there known in
        let has : has_thread k (pid number) u ≡ true = grind (arith, tests) in
        succeeds _ (meets k p t (Tgkill number u s) given (after_raise k (pid number) u s) 0 (λ asked. omega arith)
        (λ asked answer. stays k p t (Tgkill number u s) given asked _ answer (whole_raise k (pid number) asked.kernel u s has) (raise_threads k (pid number) u s has) (omega arith)
        (quiet t (Tgkill number u s) _ refl))))))
        (tested k _ EINVAL _ (tested k _ ESRCH _ refl))
