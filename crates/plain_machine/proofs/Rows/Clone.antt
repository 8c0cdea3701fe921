-- The law of clone.
use Rattle.std.proofs.Common.{◌≡◌, ℕ, ◌+◌, ◌≤◌, ◌<◌, ◌^◌, Bool, true, false, ◌&&◌, List, ◌++◌, length, refl, sym, ap, subst, ◌∙◌, arith}
use Rattle.std.specs.Prelude.{nat_lt, Option, Some, None, is_some, All}
use Rattle.std.specs.FinMap as map
use Rattle.std.proofs.lemmas.Bool.Decides.{nat_tests}
use Rattle.std.proofs.lemmas.List.Elements.{All-nil, All-append}
use Rattle.plain_tables.specs.OfViews.Limits.{PROCESS_LIMIT, THREAD_LIMIT}
use Rattle.plain_tables.specs.OfSysAbi.declared.identity.VPid.{VPid}
use Rattle.plain_tables.specs.OfSysAbi.declared.errors.TheConstants.{EAGAIN, EINVAL}
use Rattle.plain_tables.specs.OfSysAbi.declared.flags.TheConstants.{CLONE_PARENT_SETTID, CLONE_CHILD_SETTID}
use Rattle.plain_tables.specs.OfSysAbi.declared.cloning.CloneForm.{CloneForm}
use Rattle.plain_tables.specs.OfSysAbi.declared.cloning.CloneForm.TheVariants.{Fork, Thread}
use Rattle.plain_tables.specs.OfSysAbi.declared.reply.Reply.TheVariants.{Value}
use Rattle.plain_tables.specs.OfCallTable.declared.request.Request.{Request}
use Rattle.plain_tables.specs.OfCallTable.declared.request.Request.TheVariants.{Clone}
use Rattle.plain_tables.specs.OfSysAbi.Clones.{clone_form}
use Rattle.plain_tables.specs.OfSysAbi.Flags.{has_flag}
use Rattle.plain_machine.specs.declared.kernel.PlainKernel.{PlainKernel}
use Rattle.plain_tables.specs.declared.process.Process.{Process}
use Rattle.plain_tables.specs.Tables.{is_live_process, has_thread_in, with_thread_entry}
use Rattle.plain_tables.specs.OfPlainProcess.Attempts.{need}
use Rattle.plain_tables.specs.OfPlainProcess.Buffers.{span_if, clone_fills, fills_of, filled_spans}
use Rattle.plain_tables.specs.OfPlainProcess.Memory.{Memory}
use Rattle.plain_tables.specs.OfPlainProcess.Put.{added_by, added_thread, made_as, made_by, error}
use Rattle.plain_tables.specs.OfPlainProcess.Valid.{IsByte}
use Rattle.plain_machine.specs.Kernel.{is_live, has_thread, thread_count, with_next_thread}
use Rattle.plain_machine.specs.Ends.{after_fork}
use Rattle.plain_machine.specs.Valid.{IsKernel}
use Rattle.plain_machine.specs.RowLaws.{with_one, IsAsked, IsAnswer, IsServed, IsMade, MayAdd, there_after}
use Rattle.plain_machine.specs.Rows.Clone.{LAST_ID, number_if, number_bytes, cloned, forked, clone_thread, clone_process, clone_by, clone_row}
use Rattle.plain_machine.specs.Serve.{row, is_ready}
use Rattle.plain_tables.proofs.OfPlainProcess.MemoryBounds.{low_bytes_are}
use Rattle.plain_machine.proofs.Trying.{Trying, succeeds, fails, after}
use Rattle.plain_machine.proofs.LocalReplies.{needed}
use Rattle.plain_machine.proofs.MemoryPages.{FitsSpans}
use Rattle.plain_machine.proofs.CallBounds.{lent_room}
use Rattle.plain_machine.proofs.ThreadKeys.{there_with}
use Rattle.plain_machine.proofs.WholeChanges.{whole_next_thread}
use Rattle.plain_machine.proofs.WholeForks.{whole_fork}
use Rattle.plain_machine.proofs.ForkedKernels.{forked_other, forked_child, child_has}
use Rattle.plain_machine.proofs.RowBounds.{RowLaw, Meets, row_law, IsQuiet, next_is_other, changed, Settles, tested}

-- the bytes of a new number, for each place that is wanted
number_if_are : (wanted : Bool) (number : ℕ) → All IsByte (number_if wanted number)
number_if_are true number = low_bytes_are 4 number
number_if_are false number = All-nil IsByte

few_numbers : (first second : Bool) (number : ℕ) → length (number_if first number ++ number_if second number) ≤ 8
few_numbers true true number = omega arith
few_numbers true false number = omega arith
few_numbers false true number = omega arith
few_numbers false false number = omega arith

room_for_numbers : (first second : Bool) (parent child number : ℕ) → FitsSpans (span_if first parent ++ span_if second child) (length (number_if first number ++ number_if second number))
room_for_numbers true true parent child number = omega arith
room_for_numbers true false parent child number = omega arith
room_for_numbers false true parent child number = omega arith
room_for_numbers false false parent child number = tt

few_of_one : (wanted : Bool) (number : ℕ) → length (number_if wanted number) ≤ 4
few_of_one true number = omega arith
few_of_one false number = omega arith

room_for_one : (wanted : Bool) (place number : ℕ) → FitsSpans (span_if wanted place) (length (number_if wanted number))
room_for_one true place number = omega arith
room_for_one false place number = tt

-- an error adds and makes nothing
pub error_quiet : (t flags stack parent tls child e : ℕ) → IsQuiet t (Clone flags stack parent tls child) (error e)
unfolding there_after added_thread made_by
error_quiet t flags stack parent tls child e = record { threads = λ u was. by_form (clone_form flags) u was; adds = no_thread (clone_form flags); makes = no_child (clone_form flags) }
  where
    no_thread : (form : Option CloneForm) → added_by (error e) form ≡ None
    no_thread form = refl

    no_child : (form : Option CloneForm) → made_as (error e) form ≡ None
    no_child form = refl

    by_form : (form : Option CloneForm) (u : ℕ) (was : Bool) → with_one (added_by (error e) form) u was ≡ was
    by_form form u was = refl

module _ (k : PlainKernel) (p : VPid) (t flags stack parent tls child : ℕ) (given : List ℕ) where
  abbrev call : Request
  call = Clone flags stack parent tls child

  -- the next number is no thread's
  not_given_out : IsKernel k → (found : Option Process) → map.get k.processes p ≡ found → has_thread_in k.next_id found ≡ false
  not_given_out is None known = refl
  not_given_out is (Some process) known = absent (map.get process.threads k.next_id) refl
    where
      absent : (found : Option ℕ) → map.get process.threads k.next_id ≡ found → is_some found ≡ false
      absent None none = refl
      absent (Some signals) some = let number = ((is.processes.each p process known).threads k.next_id signals some).0.1 in absurd (omega arith)

  module _ (form : clone_form flags ≡ Some Thread) where
    fits : (memory : Memory) → FitsSpans (filled_spans memory call) (length (number_bytes flags k.next_id))
    unfolding fills_of
    fits memory = subst (λ f. FitsSpans (clone_fills flags parent child f) (length (number_bytes flags k.next_id))) (sym form)
        (room_for_numbers (has_flag flags CLONE_PARENT_SETTID) (has_flag flags CLONE_CHILD_SETTID) parent child k.next_id)

    answer : IsKernel k → IsAnswer call given (cloned k p flags)
    answer is = record {
      reply = let last = is.numbers.last_id in omega arith;
      bytes = All-append IsByte (number_if (has_flag flags CLONE_PARENT_SETTID) k.next_id) (number_if (has_flag flags CLONE_CHILD_SETTID) k.next_id) (number_if_are _ k.next_id) (number_if_are _ k.next_id);
      short = let few = few_numbers (has_flag flags CLONE_PARENT_SETTID) (has_flag flags CLONE_CHILD_SETTID) k.next_id in omega arith;
      room = λ memory reads. lent_room memory call given (number_bytes flags k.next_id) reads (fits memory);
      is_shown = false;
      console = refl;
    }

    thread_served : Trying (clone_thread k p flags) (Meets k p t call given)
    unfolding clone_thread with_next_thread there_after added_thread made_by
    thread_served =
        after (need (nat_lt (thread_count k p) THREAD_LIMIT && nat_lt k.next_id LAST_ID) EAGAIN) (λ done allowed.
        let tests = needed _ EAGAIN done allowed in
        let few : thread_count k p < 64 = grind (arith, nat_tests, tests) in
        let last : k.next_id + 1 < 2 ^ 31 = grind (arith, nat_tests, tests) in
        let added : added_by (Value k.next_id) (clone_form flags) ≡ Some k.next_id = ap (added_by (Value k.next_id)) form in
        succeeds (cloned k p flags) (record {
          short = let few = few_numbers (has_flag flags CLONE_PARENT_SETTID) (has_flag flags CLONE_CHILD_SETTID) k.next_id in omega arith;
          law = λ asked. changed k p t call given asked (cloned k p flags) (answer asked.kernel) (with_thread_entry k.next_id) (k.next_id + 1) refl
              (whole_next_thread k p asked.kernel asked.alive few last) (omega arith)
              (λ process u known. there_with process.threads k.next_id u 0 ∙ sym (ap (λ f. with_one (added_by (Value k.next_id) f) u (is_some (map.get process.threads u))) form))
              (subst (MayAdd k p) (sym added) (omega arith, not_given_out asked.kernel (map.get k.processes p) refl, few))
              (ap (made_as (Value k.next_id)) form);
        }))

  module _ (form : clone_form flags ≡ Some Fork) where
    child_fits : (memory : Memory) → FitsSpans (filled_spans memory call) (length (number_if (has_flag flags CLONE_PARENT_SETTID) k.next_id))
    unfolding fills_of
    child_fits memory = subst (λ f. FitsSpans (clone_fills flags parent child f) (length (number_if (has_flag flags CLONE_PARENT_SETTID) k.next_id))) (sym form)
        (room_for_one (has_flag flags CLONE_PARENT_SETTID) parent k.next_id)

    child_answer : IsKernel k → IsAnswer call given (forked k p flags)
    child_answer is = record {
      reply = let last = is.numbers.last_id in omega arith;
      bytes = number_if_are (has_flag flags CLONE_PARENT_SETTID) k.next_id;
      short = let few = few_of_one (has_flag flags CLONE_PARENT_SETTID) k.next_id in omega arith;
      room = λ memory reads. lent_room memory call given (number_if (has_flag flags CLONE_PARENT_SETTID) k.next_id) reads (child_fits memory);
      is_shown = false;
      console = refl;
    }

    next_rises : k.next_id ≤ (after_fork k p).next_id
    unfolding after_fork
    next_rises = omega arith

    -- the others live as before, and so does the caller with its threads
    child_made : IsAsked k p t call given → IsKernel (after_fork k p) → IsServed k p t call given (forked k p flags)
    unfolding is_live there_after added_thread made_by
    child_made asked whole = record {
      kernel = whole;
      answer = child_answer asked.kernel;
      live = λ r other new. ap is_live_process (forked_other k p r new);
      elsewhere = λ r u other new. ap (has_thread_in u) (forked_other k p r new);
      here = λ u alive. ap (has_thread_in u) (forked_other k p p (λ same. next_is_other k asked.kernel p asked.alive (sym same)))
          ∙ sym (ap (λ f. with_one (added_by (Value k.next_id) f) u (has_thread k p u)) form);
      made = subst (IsMade k (after_fork k p)) (sym (ap (made_as (Value k.next_id)) form)) (refl, ap is_live_process (forked_child k p), child_has k p);
      adds = subst (MayAdd k p) (sym (ap (added_by (Value k.next_id)) form)) tt;
      later = next_rises;
    }

    process_served : Trying (clone_process k p flags) (Meets k p t call given)
    unfolding clone_process
    process_served =
        after (need (nat_lt (map.len k.processes) PROCESS_LIMIT && nat_lt k.next_id LAST_ID) EAGAIN) (λ done allowed.
        let tests = needed _ EAGAIN done allowed in
        let few : map.len k.processes < 128 = grind (arith, nat_tests, tests) in
        let last : k.next_id + 1 < 2 ^ 31 = grind (arith, nat_tests, tests) in
        succeeds (forked k p flags) (record {
          short = let few = few_of_one (has_flag flags CLONE_PARENT_SETTID) k.next_id in omega arith;
          law = λ asked. child_made asked (whole_fork k p asked.kernel asked.alive few last);
        }))

  form_served : (form : Option CloneForm) → clone_form flags ≡ form → Trying (clone_by k p flags form) (Meets k p t call given)
  form_served None is = fails EINVAL
  form_served (Some Fork) is = process_served is
  form_served (Some Thread) is = thread_served is

  form_settles : (form : Option CloneForm) → Settles k (clone_by k p flags form)
  unfolding clone_thread clone_process
  form_settles None = refl
  form_settles (Some Fork) = tested k _ EAGAIN _ refl
  form_settles (Some Thread) = tested k _ EAGAIN _ refl

  pub clone_law : RowLaw k p t (Clone flags stack parent tls child) given
  unfolding row clone_row is_ready
  clone_law = row_law k p t call given (error_quiet t flags stack parent tls child) (form_served (clone_form flags) refl) (form_settles (clone_form flags))
