-- The law of eventfd2.
use Rattle.std.proofs.Common.{ℕ, List, refl, arith}
use Rattle.plain_tables.specs.OfSysAbi.declared.identity.VPid.{VPid}
use Rattle.plain_tables.specs.OfSysAbi.declared.errors.TheConstants.{EINVAL, ENFILE}
use Rattle.plain_tables.specs.OfSysAbi.declared.flags.TheConstants.{O_RDWR, O_CLOEXEC}
use Rattle.plain_tables.specs.OfCallTable.declared.request.Request.TheVariants.{Eventfd2}
use Rattle.plain_tables.specs.OfSysAbi.Flags.{has_flag}
use Rattle.plain_machine.specs.declared.kernel.PlainKernel.{PlainKernel}
use Rattle.plain_tables.specs.declared.description.Object.TheVariants.{Counter}
use Rattle.plain_tables.specs.OfPlainProcess.Attempts.{need}
use Rattle.plain_tables.specs.OfPlainProcess.Valid.{IsRequest}
use Rattle.plain_machine.specs.Kernel.{free_from, has_numbers}
use Rattle.plain_machine.specs.KernelLaws.{IsAlone}
use Rattle.plain_machine.specs.Making.{are_making_flags, end_flags}
use Rattle.plain_machine.specs.Rows.Counters.{with_counter, eventfd2_row}
use Rattle.plain_machine.specs.Serve.{row, is_ready}
use Rattle.plain_machine.proofs.HeldDescriptors.{free_is, free_prompt}
use Rattle.plain_machine.proofs.LocalReplies.{needed}
use Rattle.plain_machine.proofs.MadeDescriptions.{whole_made}
use Rattle.plain_machine.proofs.MadeNumbers.{sound_flags}
use Rattle.plain_machine.proofs.Prompt.{prompt_then, prompt_need, settles}
use Rattle.plain_machine.proofs.QuietRows.{unchanged_meets}
use Rattle.plain_machine.proofs.RowBounds.{RowLaw, row_law, quiet}
use Rattle.plain_machine.proofs.Trying.{succeeds, after}

-- no other table knows a counter
counter_alone : (value : ℕ) → IsAlone (Counter value)
counter_alone value = record { no_end = λ conn side. refl; no_listener = λ address. refl; no_datagram = refl; knows_none = λ d. refl; unbound = refl }

module _ (k : PlainKernel) (p : VPid) (t : ℕ) (given : List ℕ) where
  pub eventfd2_law : (value flags : ℕ) → RowLaw k p t (Eventfd2 value flags) given
  unfolding row is_ready eventfd2_row IsRequest
  eventfd2_law value flags = row_law k p t (Eventfd2 value flags) given (λ e. quiet t (Eventfd2 value flags) _ refl)
      (after (need (are_making_flags flags) EINVAL) (λ may allowed. after (need (has_numbers k p) ENFILE) (λ room has. after (free_from k p 0) (λ fd free.
      let place = free_is k p 0 fd free in
      let low = place.low in
      succeeds _ (unchanged_meets k p t (Eventfd2 value flags) given (with_counter k p fd value flags) fd refl refl (omega arith) (λ asked. let word = asked.request.0 in record {
        word = omega arith;
        kernel = whole_made k p fd (has_flag flags O_CLOEXEC) (Counter value) (end_flags O_RDWR flags) asked.kernel asked.alive (needed (has_numbers k p) ENFILE room has) place.low place.free
            (sound_flags O_RDWR flags (omega arith)) (counter_alone value) (record { opened = tt; addressed = tt; counts = omega arith; host = λ host none. cc });
      }))))))
      (settles k _ (prompt_then (need (are_making_flags flags) EINVAL) _ (prompt_need _ EINVAL) (λ may. prompt_then (need (has_numbers k p) ENFILE) _ (prompt_need _ ENFILE)
      (λ room. prompt_then (free_from k p 0) _ (free_prompt k p 0) (λ fd. refl)))))
