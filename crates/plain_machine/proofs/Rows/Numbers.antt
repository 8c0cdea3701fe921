-- The laws of getpid and getppid.
use Rattle.std.proofs.Common.{◌≡◌, ℕ, Bool, true, false, cond, List, refl, sym, arith}
use Rattle.std.specs.Prelude.{Option, Some, None}
use Rattle.std.specs.FinMap as map
use Rattle.plain_tables.proofs.OfViews.MapLaws.{true_false}
use Rattle.plain_tables.specs.OfSysAbi.declared.identity.VPid.{VPid}
use Rattle.plain_tables.specs.OfCallTable.declared.request.Request.TheVariants.{Getpid, Getppid}
use Rattle.plain_machine.specs.declared.kernel.PlainKernel.{PlainKernel}
use Rattle.plain_tables.specs.declared.process.Process.{Process}
use Rattle.plain_tables.specs.Tables.{pid, is_live_process}
use Rattle.plain_tables.specs.OfPlainProcess.Valid.{IsWord}
use Rattle.plain_machine.specs.Kernel.{is_live}
use Rattle.plain_machine.specs.Start.{NOBODY}
use Rattle.plain_machine.specs.Valid.{IsKernel}
use Rattle.plain_machine.specs.Rows.Numbers.{getpid_row, getppid_row, parent_in}
use Rattle.plain_machine.specs.Serve.{row, is_ready}
use Rattle.plain_machine.proofs.Trying.{succeeds}
use Rattle.plain_machine.proofs.RowBounds.{RowLaw, row_law, quiet, stays, same_processes, meets}

-- the number of a process that lives is a word
live_number : (k : PlainKernel) (p : VPid) → IsKernel k → is_live k p ≡ true → IsWord p.0
unfolding is_live
live_number k p is alive = by_process (map.get k.processes p) refl alive
  where
    by_process : (found : Option Process) → map.get k.processes p ≡ found → is_live_process found ≡ true → IsWord p.0
    by_process None there alive = true_false (sym alive)
    by_process (Some process) there alive = let number = (is.processes.each p process there).number.1 in let last = is.numbers.last_id in omega arith

parent_is_word : (k : PlainKernel) → IsKernel k → (found : Option Process) → IsWord (parent_in k found)
parent_is_word k is None = omega arith
parent_is_word k is (Some process) = by_test (is_live k (pid process.parent)) refl
  where
    by_test : (alive : Bool) → is_live k (pid process.parent) ≡ alive → IsWord (cond alive process.parent NOBODY)
    by_test true lives = live_number k (pid process.parent) is lives
    by_test false ended = omega arith

module _ (k : PlainKernel) (p : VPid) (t : ℕ) (given : List ℕ) where
  pub getpid_law : RowLaw k p t Getpid given
  unfolding row getpid_row is_ready
  getpid_law = row_law k p t Getpid given (λ e. quiet t Getpid _ refl)
      (succeeds _ (meets k p t Getpid given k p.0 (λ asked. live_number k p asked.kernel asked.alive)
      (λ asked answer. stays k p t Getpid given asked _ answer asked.kernel (same_processes k) (omega arith) (quiet t Getpid _ refl))))
      refl

  pub getppid_law : RowLaw k p t Getppid given
  unfolding row getppid_row is_ready
  getppid_law = row_law k p t Getppid given (λ e. quiet t Getppid _ refl)
      (succeeds _ (meets k p t Getppid given k _ (λ asked. parent_is_word k asked.kernel (map.get k.processes p))
      (λ asked answer. stays k p t Getppid given asked _ answer asked.kernel (same_processes k) (omega arith) (quiet t Getppid _ refl))))
      refl
