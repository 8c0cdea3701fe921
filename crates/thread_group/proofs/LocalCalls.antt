-- Rows of calls, put together: what a call's function says of its row is what the call makes of the user part.
--     value_call, action_call, mask_call, quiet_call      by what the call answers
--     other_call                                          there is no such call
--     sigaction_fits, sigprocmask_fits                    their answers can be put
--     futex_waits, futex_wakes, futex_fails               by the operation
use Rattle.std.proofs.Common.{◌≡◌, ℕ, List, [], ◌∷◌, ◌++◌, length, Bool, true, false, refl, sym, ap, subst}
use Rattle.std.specs.Prelude.{◌==◌, ◌&&◌, Option, Some, None, is_some, option_and_then, Result, Ok, Err, if◌then◌else◌}
use Rattle.std.specs.List.{list_all}
use Rattle.call_table.specs.declared.request.Request.{Request}
use Rattle.call_table.specs.declared.request.Request.TheVariants.{RtSigaction, RtSigprocmask}
use Rattle.sys_abi.specs.declared.reply.Reply.TheVariants.{Value as ToValue}
use Rattle.plain_process.specs.declared.memory.Right.TheVariants.{Write}
use Rattle.plain_process.specs.declared.user_part.UserPart.{UserPart}
use Rattle.plain_process.specs.declared.user_part.ThreadPart.{ThreadPart}
use Rattle.plain_process.specs.declared.user_part.SignalAction.{SignalAction}
use Rattle.plain_process.specs.Memory.{Memory as Pages, bytes_at, low_bytes}
use Rattle.plain_process.specs.Attempts.{Try, Fails}
use Rattle.plain_process.specs.Buffers.{lent, given_of, if_writable, can_write, written_spans, filled_spans, writes_of, fills_of, is_wait}
use Rattle.plain_process.specs.Put.{CanTake, added_thread}
use Rattle.plain_process.specs.Local.{local_by}
use Rattle.plain_process.specs.Rows.Locals.{Local}
use Rattle.plain_process.specs.Rows.Handlers.{action_bytes}
use Rattle.plain_process.specs.Rows.Futex.{is_wake, futex_wait, futex_wake, futex_row}
use Rattle.thread_group.specs.declared.local_answer.LocalAnswer.{LocalAnswer}
use Rattle.process_memory.specs.declared.local_fault.LocalFault.{LocalFault}
use Rattle.process_memory.specs.declared.local_fault.LocalFault.TheVariants.{Refused, Memory}
use Rattle.process_memory.specs.Local.{DoesRow, value_told}
use Rattle.thread_group.specs.Local.{FitsReply, IsAsked, MakesCall, action_told, mask_told, stays_told, value_answer, action_answer, mask_answer, no_answer, answer_told}
use Rattle.process_memory.proofs.Taking.{takes_nothing}
use Rattle.thread_group.proofs.OtherCalls.{IsOther, no_row}

-- the row of a call, as its function tells it
abbrev Rowed : {A : Type 0} → (UserPart → A → Local) → UserPart → UserPart → ℕ → Request → Result A LocalFault → Type 0
Rowed told before after t q made =
    (thread : ThreadPart) (given : List ℕ) → IsAsked before t q thread given → DoesRow told before after (local_by before t thread q given) made

-- an error, whatever an answer would tell
retold : {A B : Type 0} (told : UserPart → A → Local) (other : UserPart → B → Local) (before after : UserPart) (attempt : Try Local) (fault : LocalFault)
    → DoesRow told before after attempt (Err fault) → DoesRow other before after attempt (Err fault)
retold told other before after attempt (Refused e) row = row
retold told other before after attempt Memory row = row

without_bytes : (m : Pages) (q : Request) (value : ℕ) → added_thread q (ToValue value) ≡ None → FitsReply m q value []
without_bytes m q value none = record { room = takes_nothing m (filled_spans m q); threads = none }

abbrev same_call : (before after : UserPart) (t : ℕ) (q named : Request) (result told : Result LocalAnswer LocalFault) → q ≡ named → result ≡ told
    → MakesCall before after t named told → MakesCall before after t q result
same_call before after t q named result told same is made =
    subst (λ r. MakesCall before after t q r) (sym is) (subst (λ c. MakesCall before after t c told) (sym same) made)

pub value_call : (before after : UserPart) (t : ℕ) (q named : Request) (made : Result ℕ LocalFault) (result : Result LocalAnswer LocalFault) → q ≡ named
    → result ≡ value_answer made → Rowed value_told before after t named made → ((value : ℕ) → added_thread named (ToValue value) ≡ None) → MakesCall before after t q result
value_call before after t q named (Ok value) result same is row none =
    same_call before after t q named result (value_answer (Ok value)) same is (record { row = row; fits = without_bytes after.memory named value (none value) })
value_call before after t q named (Err fault) result same is row none =
    same_call before after t q named result (value_answer (Err fault)) same is
    (record { row = λ thread given asked. retold value_told answer_told before after (local_by before t thread named given) fault (row thread given asked); fits = tt })

pub quiet_call : (before after : UserPart) (t : ℕ) (q named : Request) (made : Result (Unit {0}) LocalFault) (result : Result LocalAnswer LocalFault) → q ≡ named
    → result ≡ no_answer made → Rowed stays_told before after t named made → MakesCall before after t q result
quiet_call before after t q named (Ok done) result same is row =
    same_call before after t q named result (no_answer (Ok done)) same is (record { row = row; fits = tt })
quiet_call before after t q named (Err fault) result same is row =
    same_call before after t q named result (no_answer (Err fault)) same is
    (record { row = λ thread given asked. retold stays_told answer_told before after (local_by before t thread named given) fault (row thread given asked); fits = tt })

pub action_call : (before after : UserPart) (t : ℕ) (q named : Request) (made : Result SignalAction LocalFault) (result : Result LocalAnswer LocalFault) → q ≡ named
    → result ≡ action_answer made → Rowed action_told before after t named made → ((action : SignalAction) → FitsReply after.memory named 0 (action_bytes action)) → MakesCall before after t q result
action_call before after t q named (Ok action) result same is row fits =
    same_call before after t q named result (action_answer (Ok action)) same is (record { row = row; fits = fits action })
action_call before after t q named (Err fault) result same is row fits =
    same_call before after t q named result (action_answer (Err fault)) same is
    (record { row = λ thread given asked. retold action_told answer_told before after (local_by before t thread named given) fault (row thread given asked); fits = tt })

pub mask_call : (before after : UserPart) (t : ℕ) (q named : Request) (made : Result ℕ LocalFault) (result : Result LocalAnswer LocalFault) → q ≡ named
    → result ≡ mask_answer made → Rowed mask_told before after t named made → ((mask : ℕ) → FitsReply after.memory named 0 (low_bytes 4 mask ++ low_bytes 4 0)) → MakesCall before after t q result
mask_call before after t q named (Ok mask) result same is row fits =
    same_call before after t q named result (mask_answer (Ok mask)) same is (record { row = row; fits = fits mask })
mask_call before after t q named (Err fault) result same is row fits =
    same_call before after t q named result (mask_answer (Err fault)) same is
    (record { row = λ thread given asked. retold mask_told answer_told before after (local_by before t thread named given) fault (row thread given asked); fits = tt })

pub other_call : (before : UserPart) (t : ℕ) (q : Request) → IsOther q → MakesCall before before t q (Err (Refused (record { 0 = 38 })))
other_call before t q other = record { row = λ thread given asked. (no_row before t thread q given other, refl); fits = tt }

-- the span of a call's buffer can be written
lent_writable : (m : Pages) (q : Request) → is_some (lent m q) ≡ true → list_all (can_write m) (written_spans m q) ≡ true
unfolding lent
lent_writable m q there =
    by_given (given_of m q) there
  where
    by_test : (given : List ℕ) (b : Bool) → list_all (can_write m) (written_spans m q) ≡ b → is_some (if b then Some given else None) ≡ true → list_all (can_write m) (written_spans m q) ≡ true
    by_test given true test there = test
    by_test given false test there = cc

    by_given : (given : Option (List ℕ)) → is_some (option_and_then (if_writable m q) given) ≡ true → list_all (can_write m) (written_spans m q) ≡ true
    by_given None there = cc
    by_given (Some given) there = by_test given (list_all (can_write m) (written_spans m q)) refl there

-- so a buffer of so many bytes takes them, where there is one
fits_span : (m : Pages) (address : ℕ) (zero : Bool) (bytes : List ℕ) → list_all (can_write m) (if zero then [] else (record { address = address; length = length bytes }) ∷ []) ≡ true
    → CanTake m (if zero then [] else (record { address = address; length = length bytes }) ∷ []) bytes
fits_span m address true bytes writable = tt
fits_span m address false bytes writable = one (is_some (bytes_at m Write address (length bytes))) writable
  where
    one : (b : Bool) → b && true ≡ true → b ≡ true
    one true both = refl
    one false both = both

pub sigaction_fits : (m : Pages) (q : Request) (signal address old size : ℕ) (action : SignalAction) → q ≡ RtSigaction signal address old size
    → is_some (lent m q) ≡ true → FitsReply m (RtSigaction signal address old size) 0 (action_bytes action)
unfolding fills_of writes_of added_thread
sigaction_fits m q signal address old size action same there = record {
  room = fits_span m old (old == 0) (action_bytes action) (lent_writable m (RtSigaction signal address old size) (subst (λ c. is_some (lent m c) ≡ true) same there));
  threads = refl;
}

pub sigprocmask_fits : (m : Pages) (q : Request) (how address old size mask : ℕ) → q ≡ RtSigprocmask how address old size
    → is_some (lent m q) ≡ true → FitsReply m (RtSigprocmask how address old size) 0 (low_bytes 4 mask ++ low_bytes 4 0)
unfolding fills_of writes_of added_thread
sigprocmask_fits m q how address old size mask same there = record {
  room = fits_span m old (old == 0) (low_bytes 4 mask ++ low_bytes 4 0) (lent_writable m (RtSigprocmask how address old size) (subst (λ c. is_some (lent m c) ≡ true) same there));
  threads = refl;
}

-- what a call reads
pub lent_given : (m : Pages) (q : Request) (given : List ℕ) → lent m q ≡ Some given → given_of m q ≡ Some given
unfolding lent
lent_given m q given is =
    by_given (given_of m q) is
  where
    by_test : (found : List ℕ) (b : Bool) → (if b then Some found else None) ≡ Some given → Some found ≡ Some given
    by_test found true is = is
    by_test found false is = cc

    by_given : (found : Option (List ℕ)) → option_and_then (if_writable m q) found ≡ Some given → found ≡ Some given
    by_given None is = cc
    by_given (Some found) is = by_test found (list_all (can_write m) (written_spans m q)) is

-- futex
pub futex_waits : (user : UserPart) (t : ℕ) (given : List ℕ) (address operation value timeout : ℕ) → true ≡ is_wait operation
    → futex_wait user t given address value timeout ≡ futex_row user t given address operation value timeout
unfolding futex_row
futex_waits user t given address operation value timeout waits =
    ap (λ b. if b then futex_wait user t given address value timeout else if is_wake operation then futex_wake user address value else Fails 38) waits

pub futex_wakes : (user : UserPart) (t : ℕ) (given : List ℕ) (address operation value timeout : ℕ) → false ≡ is_wait operation → true ≡ is_wake operation
    → futex_wake user address value ≡ futex_row user t given address operation value timeout
unfolding futex_row
futex_wakes user t given address operation value timeout waits wakes =
    λ k. if waits k then futex_wait user t given address value timeout else if wakes k then futex_wake user address value else Fails 38

pub futex_fails : (user : UserPart) (t : ℕ) (given : List ℕ) (address operation value timeout : ℕ) → false ≡ is_wait operation → false ≡ is_wake operation
    → futex_row user t given address operation value timeout ≡ Fails 38
unfolding futex_row
futex_fails user t given address operation value timeout waits wakes =
    λ k. if sym waits k then futex_wait user t given address value timeout else if sym wakes k then futex_wake user address value else Fails 38
