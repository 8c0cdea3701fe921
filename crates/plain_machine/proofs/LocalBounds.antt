-- A call that its process answers alone keeps the process's part valid, with the same threads.
--     keeps_local      where its thread stands at the call      local_keeps_user      the same as a law
use Rattle.std.proofs.Common.{◌≡◌, ℕ, ◌+◌, ◌-◌, ◌*◌, ◌/◌, ◌%◌, ◌≤◌, Bool, true, false, cond, ◌&&◌, List, [], length, refl, sym, ap, subst, ◌∙◌, arith}
use Rattle.std.specs.Prelude.{◌==◌, not, nat_le, nat_lt, Option, Some, None, is_some}
use Rattle.std.specs.FinMap as map
use Rattle.std.proofs.lemmas.Bool.Decides.{nat_tests}
use Rattle.plain_tables.proofs.OfViews.MapLaws.{true_false}
use Rattle.plain_tables.specs.OfCallTable.declared.request.Request.{Request}
use Rattle.plain_tables.specs.OfCallTable.declared.request.Request.TheVariants.{Exit, SetTidAddress, Futex, SchedYield, RtSigaction, RtSigprocmask, RtSigreturn, Gettid, Brk, Munmap, Mmap, Clone}
use Rattle.plain_tables.specs.OfSysAbi.declared.reply.Reply.{Reply}
use Rattle.plain_tables.specs.OfSysAbi.declared.reply.Reply.TheVariants.{Value}
use Rattle.plain_tables.specs.OfSysAbi.declared.errors.TheConstants.{EAGAIN, EINVAL, ENOMEM, ENOSYS}
use Rattle.plain_tables.specs.OfCallTable.Requests.{is_local}
use Rattle.plain_tables.specs.OfPlainProcess.declared.user_part.UserPart.{UserPart}
use Rattle.plain_tables.specs.OfPlainProcess.declared.user_part.ThreadPart.{ThreadPart}
use Rattle.plain_tables.specs.OfPlainProcess.Attempts.{Try, Fails, NotReady, Gives, need, found}
use Rattle.plain_tables.specs.OfPlainProcess.Memory.{little_endian}
use Rattle.plain_tables.specs.OfPlainProcess.Steps.{UserStep, Asks, Waits, waits, step_of, user_step}
use Rattle.plain_tables.specs.OfPlainProcess.Buffers.{is_wait, lent}
use Rattle.plain_tables.specs.OfPlainProcess.Threads.{waiting, wake}
use Rattle.plain_tables.specs.OfPlainProcess.Put.{added_thread, put, error}
use Rattle.plain_tables.specs.OfPlainProcess.Pages.{MAPPING_START, MAPPING_END, pages_of}
use Rattle.plain_tables.specs.OfPlainProcess.Rows.Locals.{Local, Replies, Stays, local_reply}
use Rattle.plain_tables.specs.OfPlainProcess.Rows.Futex.{is_wake, futex_wait, futex_wake, futex_row}
use Rattle.plain_tables.specs.OfPlainProcess.Rows.Mappings.{is_break, with_break, brk_row, munmap_row, rights_of, MAP_FLAGS, room_for, mmap_row}
use Rattle.plain_tables.specs.OfPlainProcess.Local.{with_clear_tid, set_tid_address_row, local_by, local_settled, local_lent, local_row}
use Rattle.plain_tables.specs.OfPlainProcess.Valid.{IsWord, IsThread, IsUser, IsRequest, CanAddAs}
use Rattle.plain_machine.specs.Laws.{LocalKeepsUser}
use Rattle.plain_machine.proofs.MemoryPages.{kept_pages}
use Rattle.plain_machine.proofs.Trying.{Trying, succeeds, fails, after}
use Rattle.plain_machine.proofs.Requests.{asked_is_request}
use Rattle.plain_machine.specs.RowLaws.{there_after}
use Rattle.plain_machine.proofs.UserParts.{Follows, follows_itself, memory_of, thread_follows, waiting_follows, waiters_of, waiters_more}
use Rattle.plain_machine.proofs.UserBounds.{waiters_are_few}
use Rattle.plain_machine.proofs.ThreadEnds.{wake_follows, wake_counts}
use Rattle.plain_machine.proofs.PutBounds.{put_has, refusal_is, refusal_has}
use Rattle.plain_machine.proofs.Lending.{Lent, is_lent}
use Rattle.plain_machine.proofs.LocalReplies.{IsReply, FitsLocal, quiet_reply, needed, was_found, or_try}
use Rattle.plain_machine.proofs.Spaces.{break_follows, unmapped_follows, mapped_follows, room_placed}
use Rattle.plain_machine.proofs.HandlerBounds.{sigaction_fits, sigprocmask_fits, sigreturn_fits}

module _ (user : UserPart) (is : IsUser user) where
  replies : (next : UserPart) (q : Request) (value : ℕ) → Follows user next → IsWord value → Trying (local_reply next value) (FitsLocal user q)
  replies next q value follows small = succeeds (Replies next value []) (quiet_reply user next q value follows small)

  -- words on which threads wait
  futex_wait_fits : (t address value timeout : ℕ) (given : List ℕ) (q : Request) → IsWord address → is_some (map.get user.threads t) ≡ true → waits user t ≡ false → Trying (futex_wait user t given address value timeout) (FitsLocal user q)
  unfolding futex_wait
  futex_wait_fits t address value timeout given q word there awake =
      after (need ((address % 4 == 0) && (timeout == 0)) EINVAL) (λ _ first. after (need (little_endian given == value) EAGAIN) (λ _ second.
      succeeds (Stays (waiting user t address)) (waiting_follows user is _ (waiters_more user.threads t address user.waiters (waiters_of user is) there word awake))))

  futex_wake_fits : (address value : ℕ) (q : Request) → Trying (futex_wake user address value) (FitsLocal user q)
  unfolding futex_wake
  futex_wake_fits address value q = after (need (address % 4 == 0) EINVAL) (λ _ aligned.
      let counted = wake_counts value address user in
      let few = waiters_are_few user is in
      let most = is.thread_count in
      replies (wake value address user).user q (wake value address user).count (wake_follows value address user is) (omega arith))

  futex_fits : (t address operation value timeout : ℕ) (given : List ℕ) (q : Request) → IsWord address → is_some (map.get user.threads t) ≡ true → waits user t ≡ false
      → Trying (futex_row user t given address operation value timeout) (FitsLocal user q)
  unfolding futex_row
  futex_fits t address operation value timeout given q word there awake =
      or_try (is_wait operation) _ _ (futex_wait_fits t address value timeout given q word there awake) (or_try (is_wake operation) _ _ (futex_wake_fits address value q) (fails ENOSYS))

  -- the break and mappings
  brk_fits : (address : ℕ) (q : Request) → Trying (brk_row user address) (FitsLocal user q)
  unfolding brk_row
  brk_fits address q = chosen (is_break user address) refl
    where
      chosen : (b : Bool) → is_break user address ≡ b → Trying (cond b (local_reply (with_break user address) address) (local_reply user user.break_end)) (FitsLocal user q)
      chosen true allowed =
          let from : user.break_start ≤ address = grind (arith, nat_tests, allowed) in
          let low : address ≤ 0x40000000 = grind (arith, nat_tests, allowed) in
          let few : map.len user.memory + pages_of address - pages_of user.break_end ≤ 2048 = grind (arith, nat_tests, allowed) in
          replies (with_break user address) q address (break_follows user is address from low few) (omega arith)
      chosen false refused = let low = is.break_limit in replies user q user.break_end (follows_itself user is) (omega arith)

  munmap_fits : (address length : ℕ) (q : Request) → Trying (munmap_row user address length) (FitsLocal user q)
  unfolding munmap_row
  munmap_fits address length q = after (need ((address % 4096 == 0) && not (length == 0) && nat_le MAPPING_START address && nat_le (address + length) MAPPING_END) EINVAL) (λ done is_needed.
      let tests = needed _ EINVAL done is_needed in
      let aligned : address % 4096 ≡ 0 = grind (arith, nat_tests, tests) in
      let above : 0x40000000 ≤ address = grind (arith, nat_tests, tests) in
      let below : address + length ≤ 0x70000000 = grind (arith, nat_tests, tests) in
      replies _ q 0 (unmapped_follows user is (address / 4096) (pages_of length) (omega arith) (omega arith)) (omega arith))

  mmap_fits : (length protection flags : ℕ) (q : Request) → Trying (mmap_row user length protection flags) (FitsLocal user q)
  unfolding mmap_row
  mmap_fits length protection flags q = after (need ((flags == MAP_FLAGS) && not (length == 0) && nat_lt protection 8) EINVAL) (λ done allowed.
      after (found (room_for user.memory (pages_of length)) ENOMEM) (λ page is_found.
      let place = (room_placed user.memory (pages_of length)).each page (was_found (room_for user.memory (pages_of length)) ENOMEM page is_found) in
      replies _ q (4096 * page) (mapped_follows user is page (pages_of length) (rights_of protection) place.above place.below (omega arith) place.few) (omega arith)))

  -- all of them
  module _ (t : ℕ) (thread : ThreadPart) (there : map.get user.threads t ≡ Some thread) (awake : waits user t ≡ false) where
    cleared : (place : ℕ) → IsWord place → IsThread (with_clear_tid thread place)
    cleared place word = let old = is.threads t thread there in record { regs = old.regs; mask = old.mask; clear_tid = word; count = old.count; contexts = old.contexts }

    set_tid_address_fits : (place : ℕ) (q : Request) → IsWord place → Trying (set_tid_address_row user t thread place) (FitsLocal user q)
    unfolding set_tid_address_row
    set_tid_address_fits place q word =
        replies _ q t (thread_follows user is t thread (with_clear_tid thread place) user.memory there (cleared place word) (memory_of user is) (kept_pages user.memory)) (is.thread_numbers t thread there)

    local_fits : (q : Request) (given : List ℕ) → IsRequest q → Lent user.memory q given → Trying (local_by user t thread q given) (FitsLocal user q)
    unfolding local_by IsRequest
    local_fits (SetTidAddress place) given words reads = set_tid_address_fits place (SetTidAddress place) words
    local_fits (Futex address operation value timeout) given words reads = futex_fits t address operation value timeout given (Futex address operation value timeout) words.0 (ap is_some there) awake
    local_fits SchedYield given words reads = replies user SchedYield 0 (follows_itself user is) (omega arith)
    local_fits (RtSigaction s action old_action size) given words reads = sigaction_fits user t is given s action old_action size reads
    local_fits (RtSigprocmask how set old_set size) given words reads = sigprocmask_fits user t is given thread there how set old_set size reads
    local_fits RtSigreturn given words reads = sigreturn_fits user t is given thread there
    local_fits Gettid given words reads = replies user Gettid t (follows_itself user is) (is.thread_numbers t thread there)
    local_fits (Brk address) given words reads = brk_fits address (Brk address)
    local_fits (Munmap address length) given words reads = munmap_fits address length (Munmap address length)
    local_fits (Mmap address length protection flags fd offset) given words reads = mmap_fits length protection flags (Mmap address length protection flags fd offset)
    local_fits _ given words reads = fails ENOSYS

-- only such calls have a row, and none of their answers changes the threads
only_local : (user : UserPart) (t : ℕ) (thread : ThreadPart) (q : Request) (given : List ℕ) → Trying (local_by user t thread q given) (λ done. is_local q ≡ true)
unfolding local_by
only_local user t thread (SetTidAddress place) given = record { each = λ done goes. refl }
only_local user t thread (Futex address operation value timeout) given = record { each = λ done goes. refl }
only_local user t thread SchedYield given = record { each = λ done goes. refl }
only_local user t thread (RtSigaction s action old_action size) given = record { each = λ done goes. refl }
only_local user t thread (RtSigprocmask how set old_set size) given = record { each = λ done goes. refl }
only_local user t thread RtSigreturn given = record { each = λ done goes. refl }
only_local user t thread Gettid given = record { each = λ done goes. refl }
only_local user t thread (Brk address) given = record { each = λ done goes. refl }
only_local user t thread (Munmap address length) given = record { each = λ done goes. refl }
only_local user t thread (Mmap address length protection flags fd offset) given = record { each = λ done goes. refl }
only_local user t thread _ given = fails ENOSYS

nothing_added : (q : Request) (reply : Reply) → is_local q ≡ true → added_thread q reply ≡ None
unfolding added_thread
nothing_added (Clone flags stack parent_tid tls child_tid) reply alone = true_false (sym alone)
nothing_added _ reply alone = refl

pub threads_stay : (t : ℕ) (q : Request) (reply : Reply) (u : ℕ) (was : Bool) → is_local q ≡ true → there_after t q reply u was ≡ was
unfolding there_after added_thread
threads_stay t (Exit code) reply u was alone = true_false (sym alone)
threads_stay t (Clone flags stack parent_tid tls child_tid) reply u was alone = true_false (sym alone)
threads_stay t _ reply u was alone = refl

module _ (user : UserPart) (t : ℕ) (q : Request) (is : IsUser user) (alone : is_local q ≡ true) where
  refusal_follows : (e : ℕ) → is_some (map.get user.threads t) ≡ true → Follows user (put user t q (error e) [])
  refusal_follows e there =
      let refused = refusal_has user t q e is there in record { user = refused.user; threads = λ u. refused.threads u ∙ threads_stay t q (error e) u _ alone }

  reply_follows : (next : UserPart) (value : ℕ) (bytes : List ℕ) → IsReply user next q value bytes → is_some (map.get user.threads t) ≡ true → Follows user (put next t q (Value value) bytes)
  reply_follows next value bytes fits there =
      let none = nothing_added q (Value value) alone in
      let can = subst (CanAddAs next) (sym none) tt in
      let words = λ (new : ℕ) (added : added_thread q (Value value) ≡ Some new). true_false {A = IsRequest q} (ap is_some (sym added ∙ none)) in
      let done = put_has next t q (Value value) fits.follows.user fits.word can words bytes fits.are fits.room (fits.follows.threads t ∙ there) in
      record { user = done.user; threads = λ u. done.threads u ∙ threads_stay t q (Value value) u _ alone ∙ fits.follows.threads u }

  settled_follows : (attempt : Try Local) → Trying attempt (FitsLocal user q) → is_some (map.get user.threads t) ≡ true → Follows user (local_settled user t q attempt)
  settled_follows (Fails e) fits there = refusal_follows e there
  settled_follows NotReady fits there = follows_itself user is
  settled_follows (Gives (Replies next value bytes)) fits there = reply_follows next value bytes (fits.each (Replies next value bytes) refl) there
  settled_follows (Gives (Stays next)) fits there = fits.each (Stays next) refl

  lent_follows : IsRequest q → waits user t ≡ false → (found : Option ThreadPart) → map.get user.threads t ≡ found → (given : Option (List ℕ)) → lent user.memory q ≡ given → Follows user (local_lent user t q found given)
  lent_follows words awake None there given reads = follows_itself user is
  lent_follows words awake (Some thread) there None reads = refusal_follows _ (ap is_some there)
  lent_follows words awake (Some thread) there (Some given) reads =
      settled_follows (local_by user t thread q given) (local_fits user is t thread there awake q given words ((is_lent user.memory q is.memory).each given reads)) (ap is_some there)

-- a thread that asks does not wait
asks_awake_by : (b : Bool) (next : UserStep) (q : Request) → cond b Waits next ≡ Asks q → b ≡ false
asks_awake_by true next q asks = cc
asks_awake_by false next q asks = refl

asks_awake_of : (user : UserPart) (t : ℕ) (q : Request) (found : Option ThreadPart) → step_of user t found ≡ Asks q → waits user t ≡ false
asks_awake_of user t q None asks = cc
asks_awake_of user t q (Some thread) asks = asks_awake_by (waits user t) _ q asks

pub asks_awake : (user : UserPart) (t : ℕ) (q : Request) → user_step user t ≡ Asks q → waits user t ≡ false
unfolding user_step
asks_awake user t q asks = asks_awake_of user t q (map.get user.threads t) asks

asks_there_of : (user : UserPart) (t : ℕ) (q : Request) (found : Option ThreadPart) → step_of user t found ≡ Asks q → is_some found ≡ true
asks_there_of user t q None asks = cc
asks_there_of user t q (Some thread) asks = refl

pub asks_there : (user : UserPart) (t : ℕ) (q : Request) → user_step user t ≡ Asks q → is_some (map.get user.threads t) ≡ true
unfolding user_step
asks_there user t q asks = asks_there_of user t q (map.get user.threads t) asks

pub keeps_local : (user : UserPart) (t : ℕ) (q : Request) → IsUser user → user_step user t ≡ Asks q → is_local q ≡ true → Follows user (local_row user t q)
unfolding local_row
keeps_local user t q is asks alone =
    lent_follows user t q is alone (asked_is_request user t q is asks) (asks_awake user t q asks) (map.get user.threads t) refl (lent user.memory q) refl

-- any other call is refused
refused_settled : (user : UserPart) (t : ℕ) (q : Request) (attempt : Try Local) → IsUser user → is_local q ≡ false → Trying attempt (λ done. is_local q ≡ true) → IsUser (local_settled user t q attempt)
refused_settled user t q (Fails e) is other only = refusal_is user t q e is
refused_settled user t q NotReady is other only = is
refused_settled user t q (Gives done) is other only = true_false (sym (only.each done refl) ∙ other)

refused_is : (user : UserPart) (t : ℕ) (q : Request) → IsUser user → is_local q ≡ false → (found : Option ThreadPart) (given : Option (List ℕ)) → IsUser (local_lent user t q found given)
refused_is user t q is other None given = is
refused_is user t q is other (Some thread) None = refusal_is user t q _ is
refused_is user t q is other (Some thread) (Some given) = refused_settled user t q (local_by user t thread q given) is other (only_local user t thread q given)

pub local_keeps_user : LocalKeepsUser
unfolding local_row
local_keeps_user user t q is asks = chosen (is_local q) refl
  where
    chosen : (b : Bool) → is_local q ≡ b → IsUser (local_lent user t q (map.get user.threads t) (lent user.memory q))
    chosen true alone =
        (lent_follows user t q is alone (asked_is_request user t q is asks) (asks_awake user t q asks) (map.get user.threads t) refl (lent user.memory q) refl).user
    chosen false other = refused_is user t q is other (map.get user.threads t) (lent user.memory q)
