-- The part of a fork's child is valid, and has one thread, of the child's own number.
--     IsChild new child      child_is
use Rattle.std.proofs.Common.{◌≡◌, ℕ, ◌<◌, Bool, true, false, cond, List, [], ◌∷◌, ◌++◌, ◌&&◌, refl, sym, ap, subst, ◌∙◌, arith}
use Rattle.std.specs.Prelude.{Option, Some, None, is_some}
use Rattle.std.specs.List.{list_all}
use Rattle.std.specs.Ordering.{nat_cmp}
use Rattle.std.specs.FinMap as map
use Rattle.std.proofs.lemmas.List.Elements.{All-nil}
use Rattle.plain_tables.proofs.OfViews.MapLaws.{true_false}
use Rattle.plain_tables.specs.OfSysAbi.declared.flags.TheConstants.{CLONE_CHILD_CLEARTID, CLONE_PARENT_SETTID, CLONE_CHILD_SETTID}
use Rattle.plain_tables.specs.OfSysAbi.declared.reply.Reply.{Reply}
use Rattle.plain_tables.specs.OfCallTable.declared.request.Request.{Request}
use Rattle.plain_tables.specs.OfCallTable.declared.request.Request.TheVariants.{Clone}
use Rattle.plain_tables.specs.OfSysAbi.Flags.{has_flag}
use Rattle.plain_tables.specs.OfPlainProcess.declared.buffers.Span.{Span}
use Rattle.plain_tables.specs.OfPlainProcess.declared.user_part.UserPart.{UserPart}
use Rattle.plain_tables.specs.OfPlainProcess.declared.user_part.ThreadPart.{ThreadPart}
use Rattle.plain_tables.specs.OfPlainProcess.Buffers.{span, span_if, writes_of, written_spans, can_write}
use Rattle.plain_tables.specs.OfPlainProcess.Memory.{Memory, low_bytes, with_bytes}
use Rattle.plain_tables.specs.OfPlainProcess.Put.{made_by, CanTake}
use Rattle.plain_tables.specs.OfPlainProcess.Threads.{after_call, child_thread, child_memory, child_by, child_of}
use Rattle.plain_tables.specs.OfPlainProcess.Valid.{IsWord, IsThread, IsUser, IsRequest}
use Rattle.plain_tables.proofs.OfPlainProcess.MemoryBounds.{IsMemory, kept_by_bytes, low_bytes_are}
use Rattle.plain_machine.specs.RowLaws.{with_one}
use Rattle.plain_machine.proofs.Entries.{no_entry}
use Rattle.plain_machine.proofs.MemoryPages.{KeepsPages, kept_pages, spans_keep_pages, fits_taken}
use Rattle.plain_machine.proofs.StartUsers.{one_entry, only_key, only_entry}
use Rattle.plain_machine.proofs.ThreadEnds.{new_regs_are, thread_after}
use Rattle.plain_machine.proofs.ThreadKeys.{there_with}
use Rattle.plain_machine.proofs.UserParts.{user_from, memory_of, space_of, actions_of, space_written}
use Rattle.plain_machine.proofs.WordBounds.{either_word}

pub record IsChild (new : ℕ) (child : UserPart) : Type 0 where
  pub user : IsUser child
  pub threads : (u : ℕ) → is_some (map.get child.threads u) ≡ with_one (Some new) u false

child_thread_is : (caller : ThreadPart) (flags stack tls child_tid : ℕ) → IsThread caller → IsWord stack → IsWord tls → IsWord child_tid → IsThread (child_thread caller flags stack tls child_tid)
child_thread_is caller flags stack tls child_tid is first second third = record {
  regs = new_regs_are (after_call caller 0).regs flags stack tls (thread_after caller 0 is (omega arith)).regs first second;
  mask = is.mask;
  clear_tid = either_word (has_flag flags CLONE_CHILD_CLEARTID) child_tid 0 third (omega arith);
  count = is.count;
  contexts = is.contexts;
}

-- its number stands in memory that may be written
second_of_two : (can : Span → Bool) (first : Bool) (parent child : ℕ) → list_all can (span_if first parent ++ span child 4 ∷ []) ≡ true → list_all can (span child 4 ∷ []) ≡ true
second_of_two can true parent child all = later (can (span parent 4)) (can (span child 4) && true) all
  where
    later : (a b : Bool) → (a && b) ≡ true → b ≡ true
    later true b all = all
    later false b all = true_false (sym all)
second_of_two can false parent child all = all

record IsWrittenOver (before after : Memory) : Type 0 where
  memory : IsMemory after
  pages : KeepsPages before after

child_written : (memory : Memory) (child_tid new : ℕ) (first wanted : Bool) (parent_tid : ℕ) → IsMemory memory → list_all (can_write memory) (span_if first parent_tid ++ span_if wanted child_tid) ≡ true
    → IsWrittenOver memory (cond wanted (with_bytes memory child_tid (low_bytes 4 new)) memory)
child_written memory child_tid new first true parent_tid is can =
    let room : CanTake memory (span child_tid 4 ∷ []) (low_bytes 4 new) = fits_taken memory (span child_tid 4 ∷ []) (low_bytes 4 new) (second_of_two (can_write memory) first parent_tid child_tid can) (omega arith) in
    record {
      memory = kept_by_bytes memory child_tid (low_bytes 4 new) (low_bytes_are 4 new) is;
      pages = spans_keep_pages memory (span child_tid 4 ∷ []) (low_bytes 4 new) room;
    }
child_written memory child_tid new first false parent_tid is can = record { memory = is; pages = kept_pages memory }

module _ (user : UserPart) (new flags stack parent_tid tls child_tid : ℕ) (is : IsUser user) (small : IsWord new) (first : IsWord stack) (second : IsWord tls) (third : IsWord child_tid)
    (can : list_all (can_write user.memory) (span_if (has_flag flags CLONE_PARENT_SETTID) parent_tid ++ span_if (has_flag flags CLONE_CHILD_SETTID) child_tid) ≡ true) where
  child_by_is : (t : ℕ) (found : Option ThreadPart) → map.get user.threads t ≡ found → is_some found ≡ true → IsChild new (child_by user new flags stack tls child_tid found)
  child_by_is t None there some = cc
  child_by_is t (Some caller) there some =
      let written = child_written user.memory child_tid new (has_flag flags CLONE_PARENT_SETTID) (has_flag flags CLONE_CHILD_SETTID) parent_tid (memory_of user is) can in
      let thread = child_thread_is caller flags stack tls child_tid (is.threads t caller there) first second third in
      let one = one_entry new (child_thread caller flags stack tls child_tid) in
      record {
        user = user_from (child_by user new flags stack tls child_tid (Some caller)) (space_written user.memory _ user.break_start user.break_end (space_of user is) written.memory written.pages)
            (record {
              count = omega arith;
              numbers = λ q found there. subst IsWord (sym (only_key new q (child_thread caller flags stack tls child_tid) found there)) small;
              each = λ q found there. subst IsThread (only_entry new q (child_thread caller flags stack tls child_tid) found there) thread;
            })
            (actions_of user is) (record { each = All-nil _; apart = λ i j d before inside. absurd (omega arith) });
        threads = λ u.
            let none : map.get (map.empty {X = ThreadPart} {R = nat_cmp}) u ≡ None = map.get-empty nat_cmp u in
            there_with map.empty new u (child_thread caller flags stack tls child_tid) ∙ ap (with_one (Some new) u) (ap is_some none);
      }

pub child_is : (user : UserPart) (t new : ℕ) (q : Request) (reply : Reply) (number : ℕ) → IsUser user → IsRequest q → IsWord new → is_some (map.get user.threads t) ≡ true
    → list_all (can_write user.memory) (written_spans user.memory q) ≡ true → made_by q reply ≡ Some number → IsChild new (child_of user t new q)
unfolding made_by child_of IsRequest writes_of
child_is user t new (Clone flags stack parent_tid tls child_tid) reply number is words small there can makes =
    child_by_is user new flags stack parent_tid tls child_tid is small words.1 words.3 words.4 can t (map.get user.threads t) refl there
child_is user t new _ reply number is words small there can makes = cc
