-- The law of wait4.
use Rattle.std.proofs.Common.{◌≡◌, ℕ, Bool, true, false, cond, List, [], ◌∷◌, length, refl, arith}
use Rattle.std.specs.Prelude.{◌==◌, ◌||◌, not, is_some}
use Rattle.plain_tables.specs.OfSysAbi.declared.identity.VPid.{VPid}
use Rattle.plain_tables.specs.OfSysAbi.declared.errors.TheConstants.{ECHILD, EINVAL}
use Rattle.plain_tables.specs.OfCallTable.declared.request.Request.{Request}
use Rattle.plain_tables.specs.OfCallTable.declared.request.Request.TheVariants.{Wait4}
use Rattle.plain_machine.specs.declared.kernel.PlainKernel.{PlainKernel}
use Rattle.plain_tables.specs.declared.waiting.Waiting.{Waiting}
use Rattle.plain_tables.specs.declared.waiting.Waiting.TheVariants.{NoChild, NotReady, Ended}
use Rattle.plain_tables.specs.OfPlainProcess.Attempts.{NotReady as NotYet, need, and_then}
use Rattle.plain_tables.specs.OfPlainProcess.Buffers.{span, span_unless_zero, writes_of, fills_of, filled_spans}
use Rattle.plain_tables.specs.OfPlainProcess.Memory.{Memory, low_bytes}
use Rattle.plain_tables.specs.OfPlainProcess.Put.{error}
use Rattle.plain_machine.specs.Attempts.{replied, settled}
use Rattle.plain_machine.specs.RowLaws.{IsAnswer}
use Rattle.plain_tables.specs.Waits.{wait_for, is_answered}
use Rattle.plain_machine.specs.Valid.{IsKernel}
use Rattle.plain_machine.specs.Rows.Wait.{WNOHANG, may_be_asked, child_of_number, reaped, wait4_by, wait4_row, is_wait4_ready}
use Rattle.plain_machine.specs.Serve.{row, is_ready}
use Rattle.plain_tables.proofs.OfPlainProcess.MemoryBounds.{low_bytes_are}
use Rattle.plain_machine.proofs.Trying.{Trying, succeeds, fails, after}
use Rattle.plain_machine.proofs.MemoryPages.{FitsSpans}
use Rattle.plain_machine.proofs.CallBounds.{lent_room}
use Rattle.plain_machine.proofs.ReapedKernels.{IsEnded, found_ended, ended_number, whole_reaped, reaped_same}
use Rattle.plain_machine.proofs.RowBounds.{RowLaw, Meets, row_law, IsQuiet, quiet, stays, same_processes, meets}

-- the status stands at its place, if there is one
room_for_status : (place : ℕ) → FitsSpans (span_unless_zero place 4) 4
room_for_status place = chosen (place == 0)
  where
    chosen : (b : Bool) → FitsSpans (cond b [] (span place 4 ∷ [])) 4
    chosen true = tt
    chosen false = omega arith

waits : {A : Type 0} {P : A → Type 0} → Trying NotYet P
waits = record { each = λ a is. cc }

module _ (k : PlainKernel) (p : VPid) (t : ℕ) (given : List ℕ) (number place options usage : ℕ) where
  abbrev call : Request
  call = Wait4 number place options usage

  no_change : (e : ℕ) → IsQuiet t call (error e)
  no_change e = quiet t call (error e) refl

  module _ (q : VPid) (status : ℕ) (ended : IsEnded k.processes q status) where
    fits : (memory : Memory) → FitsSpans (filled_spans memory call) (length (low_bytes 4 status))
    unfolding fills_of writes_of
    fits memory = room_for_status place

    answer : IsKernel k → IsAnswer call given (reaped k q status)
    answer is = record {
      reply = let low = ended_number k q status is ended in let last = is.numbers.last_id in omega arith;
      bytes = low_bytes_are 4 status;
      short = omega arith;
      room = λ memory reads. lent_room memory call given (low_bytes 4 status) reads (fits memory);
      is_shown = false;
      console = refl;
    }

    goes : Meets k p t call given (reaped k q status)
    goes = record {
      short = omega arith;
      law = λ asked.
          stays k p t call given asked (reaped k q status) (answer asked.kernel) (whole_reaped k q status asked.kernel ended) (reaped_same k q status asked.kernel ended) (omega arith) (quiet t call _ refl);
    }

  -- no child has ended
  at_once : Trying (replied k 0) (Meets k p t call given)
  at_once = succeeds _ (meets k p t call given k 0 (λ asked. omega arith)
      (λ asked answer. stays k p t call given asked _ answer asked.kernel (same_processes k) (omega arith) (quiet t call _ refl)))

  none_ended : (is_asked : Bool) → Trying (cond is_asked (replied k 0) NotYet) (Meets k p t call given)
  none_ended true = at_once
  none_ended false = waits

  by_found : (found : Waiting) → wait_for k.processes p (child_of_number number) ≡ found → Trying (wait4_by k options found) (Meets k p t call given)
  by_found NoChild is = fails ECHILD
  by_found NotReady is = none_ended (options == WNOHANG)
  by_found (Ended q status) is = succeeds (reaped k q status) (goes q status (found_ended k.processes p (child_of_number number) q status is))

  settles : (found : Waiting) → is_some (settled k (wait4_by k options found)) ≡ ((options == WNOHANG) || is_answered found)
  settles NoChild = either (options == WNOHANG)
    where
      either : (b : Bool) → true ≡ (b || true)
      either true = refl
      either false = refl
  settles NotReady = either (options == WNOHANG)
    where
      either : (b : Bool) → is_some (settled k (cond b (replied k 0) NotYet)) ≡ (b || false)
      either true = refl
      either false = refl
  settles (Ended q status) = either (options == WNOHANG)
    where
      either : (b : Bool) → true ≡ (b || true)
      either true = refl
      either false = refl

  ready : (may : Bool) → is_some (settled k (and_then (need may EINVAL) (λ _. wait4_by k options (wait_for k.processes p (child_of_number number)))))
      ≡ (not may || (options == WNOHANG) || is_answered (wait_for k.processes p (child_of_number number)))
  unfolding and_then need
  ready true = settles (wait_for k.processes p (child_of_number number))
  ready false = refl

  pub wait4_law : RowLaw k p t (Wait4 number place options usage) given
  unfolding row is_ready wait4_row is_wait4_ready
  wait4_law = row_law k p t call given no_change
      (after (need (may_be_asked number options usage) EINVAL) (λ asked allowed. by_found (wait_for k.processes p (child_of_number number)) refl))
      (ready (may_be_asked number options usage))
