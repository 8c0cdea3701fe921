-- The part of a process at a call's answer, before the threads change.
--     answered user t q word bytes      the bytes stand where the call asked for them, and the thread's call answers the word
use Rattle.std.proofs.Common.{◌≡◌, ◌≢◌, ℕ, List, true, false, refl, sym, ap, subst, ◌∙◌}
use Rattle.std.specs.Prelude.{Option, Some, None, is_some, IfSome}
use Rattle.std.specs.Cmp.{nat_cmp_total}
use Rattle.std.specs.Ordering.{nat_cmp}
use Rattle.std.specs.FinMap as map
use Rattle.views.proofs.MapLaws.{get_insert_same, get_insert_other}
use Rattle.call_table.specs.declared.request.Request.{Request}
use Rattle.sys_abi.specs.declared.reply.Reply.{Reply}
use Rattle.plain_process.specs.declared.user_part.UserPart.{UserPart}
use Rattle.plain_process.specs.declared.user_part.ThreadPart.{ThreadPart}
use Rattle.plain_process.specs.Buffers.{filled_spans}
use Rattle.plain_process.specs.Put.{after_call, added_thread, after_threads, put, put_by, with_spans, word_of}
use Rattle.plain_process.specs.Valid.{CanAdd, CanAddAs}
use Rattle.guest_proc.specs.Guests.{GuestPart, HasThread, with_user, with_threads}
use Rattle.guest_threads.specs.Threads.{changed, changed_by}
use Rattle.plain_process.specs.Rows.Mappings.{with_memory}

-- look-ups after a change of a thread that is there
has_by : (threads : map.FinMap nat_cmp ThreadPart) (t : ℕ) (change : ThreadPart → ThreadPart) (found : Option ThreadPart) → is_some found ≡ true
    → is_some (map.get (changed_by threads t change found) t) ≡ true
has_by threads t change None there = cc
has_by threads t change (Some thread) there = ap is_some (get_insert_same nat_cmp_total map.nat_cmp-IsAntisymmetric threads t (change thread))

has_changed : (threads : map.FinMap nat_cmp ThreadPart) (t : ℕ) (change : ThreadPart → ThreadPart) → is_some (map.get threads t) ≡ true → is_some (map.get (changed threads t change) t) ≡ true
has_changed threads t change there = has_by threads t change (map.get threads t) there

free_by : (threads : map.FinMap nat_cmp ThreadPart) (t new : ℕ) (change : ThreadPart → ThreadPart) (found : Option ThreadPart) → new ≢ t → map.get threads new ≡ None
    → map.get (changed_by threads t change found) new ≡ None
free_by threads t new change None other free = free
free_by threads t new change (Some thread) other free = get_insert_other nat_cmp_total map.nat_cmp-IsAntisymmetric threads t (change thread) new other ∙ free

free_changed : (threads : map.FinMap nat_cmp ThreadPart) (t new : ℕ) (change : ThreadPart → ThreadPart) → is_some (map.get threads t) ≡ true → map.get threads new ≡ None
    → map.get (changed threads t change) new ≡ None
free_changed threads t new change there free =
    let other : new ≢ t = λ same. taken (ap is_some (ap (map.get threads) (sym same) ∙ free)) in
    free_by threads t new change (map.get threads t) other free
  where
    taken : is_some (map.get threads t) ≡ false → ⊥
    taken none = cc

can_add : (user : UserPart) (t : ℕ) (q : Request) (reply : Reply) (change : ThreadPart → ThreadPart) → HasThread user t → CanAdd user q reply
    → IfSome (added_thread q reply) (λ new. map.get (changed user.threads t change) new ≡ None)
can_add user t q reply change there can = by_added (added_thread q reply) can
  where
    by_added : (added : Option ℕ) → CanAddAs user added → IfSome added (λ new. map.get (changed user.threads t change) new ≡ None)
    by_added None can = tt
    by_added (Some new) can = free_changed user.threads t new change there can.1

abbrev pub answered : UserPart → ℕ → Request → ℕ → List ℕ → UserPart
answered user t q word bytes =
    with_threads (with_memory user (with_spans user.memory (filled_spans user.memory q) bytes)) (changed user.threads t (λ thread. after_call thread word))

missing_by : (user : UserPart) (t : ℕ) (q : Request) (reply : Reply) (bytes : List ℕ) (found : Option ThreadPart) → is_some found ≡ false
    → user ≡ put_by user t q reply (with_spans user.memory (filled_spans user.memory q) bytes) found
missing_by user t q reply bytes None missing = refl
missing_by user t q reply bytes (Some thread) missing = cc

pub put_missing : (user : UserPart) (t : ℕ) (q : Request) (reply : Reply) (bytes : List ℕ) → is_some (map.get user.threads t) ≡ false → user ≡ put user t q reply bytes
unfolding put
put_missing user t q reply bytes missing = missing_by user t q reply bytes (map.get user.threads t) missing

there_by : (user : UserPart) (t : ℕ) (q : Request) (reply : Reply) (bytes : List ℕ) (found : Option ThreadPart) → is_some found ≡ true
    → after_threads (with_threads (with_memory user (with_spans user.memory (filled_spans user.memory q) bytes)) (changed_by user.threads t (λ thread. after_call thread (word_of reply)) found)) t q reply
    ≡ put_by user t q reply (with_spans user.memory (filled_spans user.memory q) bytes) found
there_by user t q reply bytes None there = cc
there_by user t q reply bytes (Some thread) there = refl

pub put_there : (user : UserPart) (t : ℕ) (q : Request) (reply : Reply) (bytes : List ℕ) → is_some (map.get user.threads t) ≡ true
    → after_threads (answered user t q (word_of reply) bytes) t q reply ≡ put user t q reply bytes
unfolding put
put_there user t q reply bytes there = there_by user t q reply bytes (map.get user.threads t) there

-- the same, by the two changes that lead there
pub answered_by : (old first next : GuestPart) (t : ℕ) (q : Request) (reply : Reply) (word : ℕ) (bytes : List ℕ)
    → first ≡ with_user old (with_memory old.user (with_spans old.user.memory (filled_spans old.user.memory q) bytes)) → word ≡ word_of reply
    → next ≡ with_user first (with_threads first.user (changed first.user.threads t (λ thread. after_call thread word))) → next.user ≡ answered old.user t q (word_of reply) bytes
answered_by old first next t q reply word bytes is_first is_word is_next =
    ap (λ (g : GuestPart). g.user) is_next ∙ ap (λ (g : GuestPart). with_threads g.user (changed g.user.threads t (λ thread. after_call thread word))) is_first
    ∙ ap (λ w. answered old.user t q w bytes) is_word

pub has_still : (user after : UserPart) (t : ℕ) (q : Request) (word : ℕ) (bytes : List ℕ) → after ≡ answered user t q word bytes → is_some (map.get user.threads t) ≡ true → HasThread after t
has_still user after t q word bytes is there = subst (λ (u : UserPart). HasThread u t) (sym is) (has_changed user.threads t (λ thread. after_call thread word) there)

pub can_still : (user after : UserPart) (t : ℕ) (q : Request) (reply : Reply) (word : ℕ) (bytes : List ℕ) → after ≡ answered user t q word bytes → is_some (map.get user.threads t) ≡ true
    → CanAdd user q reply → IfSome (added_thread q reply) (λ new. map.get after.threads new ≡ None)
can_still user after t q reply word bytes is there can =
    subst (λ (u : UserPart). IfSome (added_thread q reply) (λ new. map.get u.threads new ≡ None)) (sym is) (can_add user t q reply (λ thread. after_call thread word) there can)

pub is_free : (threads : map.FinMap nat_cmp ThreadPart) (t : ℕ) → is_some (map.get threads t) ≡ false → map.get threads t ≡ None
is_free threads t none = none_by (map.get threads t) none
  where
    none_by : (found : Option ThreadPart) → is_some found ≡ false → found ≡ None
    none_by None none = refl
    none_by (Some thread) none = cc
