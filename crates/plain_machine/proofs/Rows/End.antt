-- The laws of exit and exit_group.
use Rattle.std.proofs.Common.{◌≡◌, ℕ, ◌^◌, ◌<◌, Bool, true, false, cond, List, [], refl, arith}
use Rattle.std.specs.Prelude.{nat_le, None}
use Rattle.std.proofs.lemmas.Bool.Decides.{nat_tests}
use Rattle.plain_tables.specs.OfSysAbi.declared.identity.VPid.{VPid}
use Rattle.plain_tables.specs.OfSysAbi.declared.reply.Reply.TheVariants.{Value}
use Rattle.plain_tables.specs.OfCallTable.declared.request.Request.TheVariants.{Exit, ExitGroup}
use Rattle.plain_machine.specs.declared.kernel.PlainKernel.{PlainKernel}
use Rattle.plain_tables.specs.Tables.{without_thread_entry}
use Rattle.plain_tables.specs.OfPlainProcess.Put.{added_thread, made_by}
use Rattle.plain_machine.specs.Kernel.{at_process, thread_count}
use Rattle.plain_machine.specs.Ends.{exit_status, after_end, thread_ended}
use Rattle.plain_machine.specs.RowLaws.{there_after}
use Rattle.plain_machine.specs.Rows.End.{exit_group_row, exit_row}
use Rattle.plain_machine.specs.Serve.{row, serve, is_ready}
use Rattle.plain_tables.proofs.OfPlainProcess.Giving.{gives}
use Rattle.plain_machine.proofs.Trying.{succeeds}
use Rattle.plain_machine.proofs.ThreadKeys.{there_without}
use Rattle.plain_machine.proofs.WholeChanges.{whole_fewer}
use Rattle.plain_machine.proofs.RowBounds.{RowLaw, Meets, row_law, quiet, ends, changed, meets}

exit_small : (code : ℕ) → exit_status code < 2 ^ 32
exit_small code = omega arith

module _ (k : PlainKernel) (p : VPid) (t code : ℕ) (given : List ℕ) where
  pub exit_group_law : RowLaw k p t (ExitGroup code) given
  unfolding row exit_group_row is_ready added_thread made_by
  exit_group_law = row_law k p t (ExitGroup code) given (λ e. quiet t (ExitGroup code) _ refl)
      (succeeds _ (meets k p t (ExitGroup code) given (after_end k p (exit_status code)) 0 (λ asked. omega arith)
      (λ asked answer. ends k p t (ExitGroup code) given asked _ answer (exit_status code) (exit_small code) refl refl refl)))
      refl

  exit_meets : (last : Bool) → nat_le (thread_count k p) 1 ≡ last
      → Meets k p t (Exit code) given (record { kernel = cond last (after_end k p (exit_status code)) (at_process k p (without_thread_entry t)); reply = Value 0; bytes = []; console = [] })
  unfolding added_thread made_by there_after
  exit_meets true one = meets k p t (Exit code) given (after_end k p (exit_status code)) 0 (λ asked. omega arith)
      (λ asked answer. ends k p t (Exit code) given asked _ answer (exit_status code) (exit_small code) refl refl refl)
  exit_meets false one =
      let others : 1 < thread_count k p = grind (arith, nat_tests, one) in
      meets k p t (Exit code) given (at_process k p (without_thread_entry t)) 0 (λ asked. omega arith)
      (λ asked answer. changed k p t (Exit code) given asked _ answer (without_thread_entry t) k.next_id refl (whole_fewer k p asked.kernel t others) (omega arith)
      (λ process u known. there_without process.threads t u) tt refl)

  -- an exit answers no error
  pub exit_law : RowLaw k p t (Exit code) given
  unfolding row serve exit_row is_ready thread_ended
  exit_law = record { served = gives _ (exit_meets (nat_le (thread_count k p) 1) refl); ready = refl }
