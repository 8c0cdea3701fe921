-- A call's answer keeps a process's part valid: the bytes, a0, and one thread less for an exit, one more where the answer adds one.
--     put_is, put_has, refusal_is, refusal_has, fault_follows      and which threads are there afterwards      put_keeps_user, fault_keeps_user      as laws
use Rattle.std.proofs.Common.{◌≡◌, ℕ, ◌-◌, Bool, true, false, List, [], ◌∷◌, length, refl, sym, ap, subst, ◌∙◌, arith}
use Rattle.std.specs.Prelude.{Option, Some, None, is_some, All, take, drop}
use Rattle.std.specs.FinMap as map
use Rattle.std.proofs.lemmas.List.Elements.{All-nil, All-take, All-drop}
use Rattle.plain_tables.proofs.OfViews.MapLaws.{true_false}
use Rattle.plain_tables.specs.OfCallTable.declared.request.Request.{Request}
use Rattle.plain_tables.specs.OfCallTable.declared.request.Request.TheVariants.{Exit, Clone}
use Rattle.plain_tables.specs.OfSysAbi.declared.reply.Reply.{Reply}
use Rattle.plain_tables.specs.OfSysAbi.Clones.{clone_form}
use Rattle.plain_tables.specs.OfSysAbi.declared.cloning.CloneForm.{CloneForm}
use Rattle.plain_tables.specs.OfPlainProcess.declared.user_part.UserPart.{UserPart}
use Rattle.plain_tables.specs.OfPlainProcess.declared.user_part.ThreadPart.{ThreadPart}
use Rattle.plain_tables.specs.OfPlainProcess.Memory.{Memory}
use Rattle.plain_tables.specs.OfPlainProcess.Steps.{with_thread}
use Rattle.plain_tables.specs.OfPlainProcess.declared.buffers.Span.{Span}
use Rattle.plain_tables.specs.OfPlainProcess.Buffers.{reads_of, given_of, writes_of, filled_spans, lent}
use Rattle.plain_tables.specs.OfPlainProcess.Put.{word_of, after_call, with_spans, added_by, added_thread, with_added, after_threads, put_by, put, put_fault, error, CanTake}
use Rattle.plain_tables.specs.OfPlainProcess.Valid.{IsWord, IsByte, IsUser, IsRequest, CanAddAs, CanAdd}
use Rattle.plain_machine.specs.Laws.{PutKeepsUser, FaultKeepsUser}
use Rattle.plain_tables.proofs.OfPlainProcess.MemoryBounds.{IsMemory, kept_by_bytes}
use Rattle.plain_machine.proofs.MemoryPages.{KeepsPages, spans_keep_pages, no_bytes_taken}
use Rattle.plain_machine.specs.RowLaws.{with_one, there_after}
use Rattle.plain_machine.proofs.ThreadKeys.{same_len}
use Rattle.plain_machine.proofs.UserParts.{Follows, memory_of, thread_follows}
use Rattle.plain_machine.proofs.ThreadEnds.{HasThreads, thread_after, thread_ends, thread_begins}

spans_keep : (memory : Memory) (spans : List Span) (bytes : List ℕ) → All IsByte bytes → IsMemory memory → IsMemory (with_spans memory spans bytes)
spans_keep memory [] bytes are before = before
spans_keep memory (at ∷ []) bytes are before = kept_by_bytes memory at.address bytes are before
spans_keep memory (at ∷ next ∷ rest) bytes are before =
    let front = length bytes - next.length in
    kept_by_bytes _ next.address (drop front bytes) (All-drop IsByte front bytes are) (kept_by_bytes memory at.address (take front bytes) (All-take IsByte front bytes are) before)

-- there is still room for the thread that the answer adds
pub none_there : {X : Type 0} (found : Option X) → is_some found ≡ false → found ≡ None
none_there None is = refl
none_there (Some x) is = true_false is

can_add_after : (before after : UserPart) (found : Option ℕ) → Follows before after → CanAddAs before found → CanAddAs after found
can_add_after before after None follows can = tt
can_add_after before after (Some new) follows can =
    let absent = none_there (map.get after.threads new) (follows.threads new ∙ ap is_some can.1) in
    let same = same_len after.threads before.threads follows.threads in
    (can.0, absent, omega arith)

-- what the answer does to the threads
module _ (user : UserPart) (t : ℕ) (is : IsUser user) (there : is_some (map.get user.threads t) ≡ true) where
  unchanged : HasThreads user user (λ u was. was)
  unchanged = record { user = is; threads = λ u. refl }

  adds : (flags stack parent_tid tls child_tid : ℕ) (found : Option ℕ) → CanAddAs user found → ((new : ℕ) → found ≡ Some new → IsWord flags × IsWord stack × IsWord parent_tid × IsWord tls × IsWord child_tid)
      → HasThreads user (with_added user t flags stack tls child_tid found) (with_one found)
  adds flags stack parent_tid tls child_tid None can words = unchanged
  adds flags stack parent_tid tls child_tid (Some new) can words =
      let are = words new refl in thread_begins user t new flags stack tls child_tid is can.0 can.1 can.2 are.1 are.3 are.4 there

  answers : (q : Request) (reply : Reply) → CanAdd user q reply → ((new : ℕ) → added_thread q reply ≡ Some new → IsRequest q) → HasThreads user (after_threads user t q reply) (there_after t q reply)
  unfolding after_threads there_after added_thread IsRequest
  answers (Exit code) reply can words = thread_ends user t is
  answers (Clone flags stack parent_tid tls child_tid) reply can words = adds flags stack parent_tid tls child_tid (added_by reply (clone_form flags)) can words
  answers _ reply can words = unchanged

module _ (user : UserPart) (t : ℕ) (q : Request) (reply : Reply) (is : IsUser user) (small : IsWord (word_of reply)) (can : CanAdd user q reply) (words : (new : ℕ) → added_thread q reply ≡ Some new → IsRequest q) where
  put_thread : (memory : Memory) (found : Option ThreadPart) → map.get user.threads t ≡ found → is_some found ≡ true → IsMemory memory → KeepsPages user.memory memory
      → HasThreads user (put_by user t q reply memory found) (there_after t q reply)
  put_thread memory None there some after keeps = true_false (sym some)
  put_thread memory (Some thread) there some after keeps =
      let next = thread_follows user is t thread (after_call thread (word_of reply)) memory there (thread_after thread (word_of reply) (is.threads t thread there) small) after keeps in
      let done = answers (with_thread user t (after_call thread (word_of reply)) memory) t next.user (next.threads t ∙ ap is_some there) q reply
      (can_add_after user (with_thread user t (after_call thread (word_of reply)) memory) (added_thread q reply) next can) words in
      record { user = done.user; threads = λ u. done.threads u ∙ ap (there_after t q reply u) (next.threads u) }

  put_user : (memory : Memory) (found : Option ThreadPart) → map.get user.threads t ≡ found → IsMemory memory → KeepsPages user.memory memory → IsUser (put_by user t q reply memory found)
  put_user memory None there after keeps = is
  put_user memory (Some thread) there after keeps = (put_thread memory (Some thread) there refl after keeps).user

  module _ (bytes : List ℕ) (are : All IsByte bytes) (room : CanTake user.memory (filled_spans user.memory q) bytes) where
    pub put_is : IsUser (put user t q reply bytes)
    unfolding put
    put_is =
        let spans = filled_spans user.memory q in
        put_user _ (map.get user.threads t) refl (spans_keep user.memory spans bytes are (memory_of user is)) (spans_keep_pages user.memory spans bytes room)

    pub put_has : is_some (map.get user.threads t) ≡ true → HasThreads user (put user t q reply bytes) (there_after t q reply)
    unfolding put
    put_has there =
        let spans = filled_spans user.memory q in
        put_thread _ (map.get user.threads t) refl there (spans_keep user.memory spans bytes are (memory_of user is)) (spans_keep_pages user.memory spans bytes room)

-- an error adds nothing
error_by : (e : ℕ) (form : Option CloneForm) → added_by (error e) form ≡ None
error_by e form = refl

pub error_adds_nothing : (q : Request) (e : ℕ) → added_thread q (error e) ≡ None
unfolding added_thread
error_adds_nothing (Clone flags stack parent_tid tls child_tid) e = error_by e (clone_form flags)
error_adds_nothing _ e = refl

module _ (user : UserPart) (t : ℕ) (q : Request) (e : ℕ) (is : IsUser user) where
  can_refuse : CanAdd user q (error e)
  can_refuse = subst (CanAddAs user) (sym (error_adds_nothing q e)) tt

  none_added : (new : ℕ) → added_thread q (error e) ≡ Some new → IsRequest q
  none_added new added = let none = error_adds_nothing q e in cc

  pub refusal_is : IsUser (put user t q (error e) [])
  refusal_is = put_is user t q (error e) is (omega arith) can_refuse none_added [] (All-nil _) (no_bytes_taken user.memory (filled_spans user.memory q))

  pub refusal_has : is_some (map.get user.threads t) ≡ true → HasThreads user (put user t q (error e) []) (there_after t q (error e))
  refusal_has there = put_has user t q (error e) is (omega arith) can_refuse none_added [] (All-nil _) (no_bytes_taken user.memory (filled_spans user.memory q)) there

-- a fault leaves the threads: no call that ends a thread has a buffer
fault_stays : (memory : Memory) (t : ℕ) (q : Request) (e u : ℕ) (was : Bool) → lent memory q ≡ None → there_after t q (error e) u was ≡ was
unfolding there_after added_thread lent given_of reads_of writes_of
fault_stays memory t (Exit code) e u was fault = cc
fault_stays memory t (Clone flags stack parent_tid tls child_tid) e u was fault = refl
fault_stays memory t _ e u was fault = refl

pub fault_follows : (user : UserPart) (t : ℕ) (q : Request) → IsUser user → is_some (map.get user.threads t) ≡ true → lent user.memory q ≡ None → Follows user (put_fault user t q)
fault_follows user t q is there fault =
    let refused = refusal_has user t q _ is there in record { user = refused.user; threads = λ u. refused.threads u ∙ fault_stays user.memory t q _ u _ fault }

-- the same as laws
pub put_keeps_user : PutKeepsUser
put_keeps_user user t q reply bytes is words small are room can = put_is user t q reply is small can (λ new added. words) bytes are room

pub fault_keeps_user : FaultKeepsUser
fault_keeps_user user t q is = refusal_is user t q _ is
