-- The calls on handlers, masks and contexts keep a process's part valid: rt_sigaction, rt_sigprocmask, rt_sigreturn.
--     sigaction_fits, sigprocmask_fits, sigreturn_fits
use Rattle.std.proofs.Common.{◌≡◌, ℕ, ◌-◌, ◌%◌, ◌^◌, ◌<◌, ◌≤◌, Bool, true, false, cond, ◌&&◌, ◌||◌, List, [], ◌∷◌, ◌++◌, length, take, drop, length-take, subst, ◌∙◌, arith}
use Rattle.std.specs.Prelude.{◌==◌, not, nat_le, Some, All, slice_set}
use Rattle.std.specs.List.{list_all}
use Rattle.std.specs.FinMap as map
use Rattle.std.proofs.lemmas.Nat.{or_lt}
use Rattle.std.proofs.lemmas.Option.{slice_get_within, get_or_from_slice_get}
use Rattle.std.proofs.lemmas.List.{length-set}
use Rattle.std.proofs.lemmas.List.Elements.{All-append, All-set, All-take, All-drop}
use Rattle.plain_tables.specs.OfCallTable.declared.request.Request.TheVariants.{RtSigaction, RtSigprocmask, RtSigreturn}
use Rattle.plain_tables.specs.OfSysAbi.declared.errors.TheConstants.{EINVAL}
use Rattle.plain_tables.specs.OfSysAbi.declared.signals.TheConstants.{SIGKILL, SIGSTOP}
use Rattle.plain_tables.specs.OfSysAbi.Signals.{is_signal, bit_of, without_signal, blockable}
use Rattle.plain_tables.specs.OfPlainProcess.declared.user_part.UserPart.{UserPart}
use Rattle.plain_tables.specs.OfPlainProcess.declared.user_part.ThreadPart.{ThreadPart}
use Rattle.plain_tables.specs.OfPlainProcess.declared.user_part.SignalAction.{SignalAction}
use Rattle.plain_tables.specs.OfPlainProcess.declared.user_part.Context.{Context}
use Rattle.plain_tables.specs.OfPlainProcess.declared.buffers.Span.{Span}
use Rattle.plain_tables.specs.OfPlainProcess.Memory.{little_endian, low_bytes}
use Rattle.plain_tables.specs.OfPlainProcess.Attempts.{need, found}
use Rattle.plain_tables.specs.OfPlainProcess.Steps.{with_thread}
use Rattle.plain_tables.specs.OfPlainProcess.Buffers.{span, writes_of, fills_of, written_spans, filled_spans, can_write}
use Rattle.plain_tables.specs.OfPlainProcess.Put.{CanTake}
use Rattle.plain_tables.specs.OfPlainProcess.Deliveries.{action_on}
use Rattle.plain_tables.specs.OfPlainProcess.Rows.Handlers.{word_in, is_uncatchable, action_in, action_bytes, with_action, sigaction_row, mask_by, with_mask, sigprocmask_row, last_context, returned, sigreturn_row}
use Rattle.plain_tables.specs.OfPlainProcess.Valid.{IsWord, IsByte, IsRegs, IsThread, IsAction, IsUser}
use Rattle.plain_machine.proofs.SignalBounds.{without_small}
use Rattle.plain_tables.proofs.OfPlainProcess.MemoryBounds.{low_bytes_are}
use Rattle.plain_machine.proofs.MemoryPages.{FitsSpans, fits_taken, kept_pages}
use Rattle.plain_machine.proofs.WordBounds.{either_word}
use Rattle.plain_machine.proofs.Trying.{Trying, succeeds, after}
use Rattle.plain_machine.proofs.UserParts.{Follows, follows_itself, memory_of, thread_follows, actions_follow}
use Rattle.plain_machine.proofs.Lending.{Lent}
use Rattle.plain_machine.proofs.LocalReplies.{IsReply, FitsLocal, was_found}

-- words that are read, and sets that a mask may hold
four_bytes : (bytes : List ℕ) → All IsByte bytes → IsWord (little_endian (take 4 bytes))
four_bytes [] are = omega arith
four_bytes (a ∷ []) are = let first = are 0 0 (omega arith) in omega arith
four_bytes (a ∷ b ∷ []) are = let first = are 0 0 (omega arith) in let second = are 1 0 (omega arith) in omega arith
four_bytes (a ∷ b ∷ c ∷ []) are = let first = are 0 0 (omega arith) in let second = are 1 0 (omega arith) in let third = are 2 0 (omega arith) in omega arith
four_bytes (a ∷ b ∷ c ∷ d ∷ rest) are =
    let first = are 0 0 (omega arith) in let second = are 1 0 (omega arith) in let third = are 2 0 (omega arith) in let fourth = are 3 0 (omega arith) in omega arith

word_in_is : (given : List ℕ) (place : ℕ) → All IsByte given → IsWord (word_in given place)
word_in_is given place are = four_bytes (drop place given) (All-drop IsByte place given are)

blockable_small : (word : ℕ) → blockable word < 2 ^ 31
blockable_small word =
    let low : word % 2 ^ 31 < 2 ^ 31 = omega arith in
    without_small 31 (without_signal (word % 2 ^ 31) SIGKILL) (bit_of SIGSTOP) (without_small 31 (word % 2 ^ 31) (bit_of SIGKILL) low)

blockable_is : (word : ℕ) → IsWord (blockable word)
blockable_is word = let small = blockable_small word in omega arith

-- the bytes fill one buffer, where there is one
span_fits : (b : Bool) (at : Span) (n : ℕ) → n ≤ at.length → FitsSpans (cond b [] (at ∷ [])) n
span_fits true at n fits = tt
span_fits false at n fits = fits

four_are : (value : ℕ) → All IsByte (low_bytes 4 value)
four_are value = low_bytes_are 4 value

module _ (user : UserPart) (t : ℕ) (is : IsUser user) (given : List ℕ) where
  -- actions
  action_given : All IsByte given → IsAction (action_in given)
  action_given are = record { handler = word_in_is given 0 are; flags = word_in_is given 4 are; mask = blockable_is (word_in given 8) }

  acts : (s : ℕ) (action : SignalAction) → IsAction action → Follows user (with_action user s action)
  acts s action good = actions_follow user is (slice_set user.actions (s - 1) action) (record {
    count = length-set user.actions (s - 1) action ∙ is.actions;
    each = All-set IsAction user.actions (s - 1) action good is.handlers;
  })

  action_bytes_are : (action : SignalAction) → All IsByte (action_bytes action)
  action_bytes_are action =
      All-append IsByte (low_bytes 4 action.handler ++ low_bytes 4 action.flags ++ low_bytes 4 action.mask) (low_bytes 4 0)
      (All-append IsByte (low_bytes 4 action.handler ++ low_bytes 4 action.flags) (low_bytes 4 action.mask)
      (All-append IsByte (low_bytes 4 action.handler) (low_bytes 4 action.flags) (four_are action.handler) (four_are action.flags)) (four_are action.mask)) (four_are 0)

  action_room : (s action old_action size : ℕ) (old : SignalAction) → list_all (can_write user.memory) (written_spans user.memory (RtSigaction s action old_action size)) ≡ true
      → CanTake user.memory (filled_spans user.memory (RtSigaction s action old_action size)) (action_bytes old)
  unfolding writes_of fills_of
  action_room s action old_action size old can = fits_taken user.memory _ (action_bytes old) can (span_fits (old_action == 0) (span old_action 16) 16 (omega arith))

  pub sigaction_fits : (s action old_action size : ℕ) → Lent user.memory (RtSigaction s action old_action size) given
      → Trying (sigaction_row user given s action size) (FitsLocal user (RtSigaction s action old_action size))
  unfolding sigaction_row
  sigaction_fits s action old_action size lent = after (need ((size == 8) && is_signal s && ((action == 0) || not (is_uncatchable s))) EINVAL) (λ done allowed. succeeds _ (chosen (action == 0)))
    where
      room : CanTake user.memory (filled_spans user.memory (RtSigaction s action old_action size)) (action_bytes (action_on user s))
      room = action_room s action old_action size (action_on user s) lent.writable

      chosen : (b : Bool) → IsReply user (cond b user (with_action user s (action_in given))) (RtSigaction s action old_action size) 0 (action_bytes (action_on user s))
      chosen true = record { follows = follows_itself user is; word = omega arith; are = action_bytes_are (action_on user s); room = room }
      chosen false = record { follows = acts s (action_in given) (action_given lent.bytes); word = omega arith; are = action_bytes_are (action_on user s); room = room }

  -- masks and contexts
  module _ (thread : ThreadPart) (there : map.get user.threads t ≡ Some thread) where
    changed : (new : ThreadPart) → IsThread new → Follows user (with_thread user t new user.memory)
    changed new good = thread_follows user is t thread new user.memory there good (memory_of user is) (kept_pages user.memory)

    mask_is : (how set : ℕ) → IsWord (mask_by how thread.mask set)
    mask_is how set =
        let old = (is.threads t thread there).mask in
        either_word (how == 0) _ _ (or_lt 32 thread.mask (blockable set) old (blockable_is set))
        (either_word (how == 1) _ _ (without_small 32 thread.mask (blockable set) old) (blockable_is set))

    masked : (mask : ℕ) → IsWord mask → IsThread (with_mask thread mask)
    masked mask word = let old = is.threads t thread there in record { regs = old.regs; mask = word; clear_tid = old.clear_tid; count = old.count; contexts = old.contexts }

    mask_room : (how set old_set size : ℕ) → list_all (can_write user.memory) (written_spans user.memory (RtSigprocmask how set old_set size)) ≡ true
        → CanTake user.memory (filled_spans user.memory (RtSigprocmask how set old_set size)) (low_bytes 4 thread.mask ++ low_bytes 4 0)
    unfolding writes_of fills_of
    mask_room how set old_set size can = fits_taken user.memory _ (low_bytes 4 thread.mask ++ low_bytes 4 0) can (span_fits (old_set == 0) (span old_set 8) 8 (omega arith))

    pub sigprocmask_fits : (how set old_set size : ℕ) → Lent user.memory (RtSigprocmask how set old_set size) given
        → Trying (sigprocmask_row user t thread given how set size) (FitsLocal user (RtSigprocmask how set old_set size))
    unfolding sigprocmask_row
    sigprocmask_fits how set old_set size lent = after (need ((size == 8) && nat_le how 2) EINVAL) (λ done allowed. succeeds _ (chosen (set == 0)))
      where
        bytes : All IsByte (low_bytes 4 thread.mask ++ low_bytes 4 0)
        bytes = All-append IsByte (low_bytes 4 thread.mask) (low_bytes 4 0) (four_are thread.mask) (four_are 0)

        chosen : (b : Bool)
            → IsReply user (cond b user (with_thread user t (with_mask thread (mask_by how thread.mask (word_in given 0))) user.memory)) (RtSigprocmask how set old_set size) 0 (low_bytes 4 thread.mask ++ low_bytes 4 0)
        chosen true = record { follows = follows_itself user is; word = omega arith; are = bytes; room = mask_room how set old_set size lent.writable }
        chosen false = record {
          follows = changed _ (masked (mask_by how thread.mask (word_in given 0)) (mask_is how (word_in given 0)));
          word = omega arith;
          are = bytes;
          room = mask_room how set old_set size lent.writable;
        }

    returned_is : (context : Context) → last_context thread.contexts ≡ Some context → IsThread (returned thread context)
    returned_is context last =
        let old = is.threads t thread there in
        let inside = slice_get_within thread.contexts (length thread.contexts - 1) context last in
        let same = get_or_from_slice_get thread.contexts (length thread.contexts - 1) context context last in
        let facts = subst (λ (c : Context). IsRegs c.regs × IsWord c.mask) same (old.contexts (length thread.contexts - 1) context inside) in
        record {
          regs = facts.0;
          mask = facts.1;
          clear_tid = old.clear_tid;
          count = let few = length-take (length thread.contexts - 1) thread.contexts in let all = old.count in omega arith;
          contexts = All-take (λ (c : Context). IsRegs c.regs × IsWord c.mask) (length thread.contexts - 1) thread.contexts old.contexts;
        }

    pub sigreturn_fits : Trying (sigreturn_row user t thread) (FitsLocal user RtSigreturn)
    unfolding sigreturn_row
    sigreturn_fits = after (found (last_context thread.contexts) EINVAL) (λ context is_last. succeeds _ (changed _ (returned_is context (was_found (last_context thread.contexts) EINVAL context is_last))))
