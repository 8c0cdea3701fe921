-- The part of a process after a call that it answers alone, from what the call made and its answer.
--     error_adds_nothing, error_put      an error as the answer
--     local_none, local_fault            there is no such thread; a buffer isn't as the call needs it
--     local_answered, local_refused, local_wanted      the call was made, or was refused, or wanted memory
use Rattle.std.proofs.Common.{◌≡◌, ℕ, List, [], true, false, refl, sym, ap, ◌∙◌}
use Rattle.std.specs.Prelude.{Option, Some, None, is_some, Ok, Err}
use Rattle.std.specs.FinMap as map
use Rattle.call_table.specs.declared.request.Request.{Request}
use Rattle.call_table.specs.declared.request.Request.TheVariants.{Clone}
use Rattle.sys_abi.specs.declared.reply.Errno.{Errno}
use Rattle.sys_abi.specs.declared.reply.Reply.TheVariants.{Error}
use Rattle.plain_process.specs.declared.user_part.UserPart.{UserPart}
use Rattle.plain_process.specs.declared.user_part.ThreadPart.{ThreadPart}
use Rattle.plain_process.specs.Attempts.{Gives}
use Rattle.plain_process.specs.Buffers.{lent}
use Rattle.plain_process.specs.Put.{added_thread, put, put_fault}
use Rattle.plain_process.specs.Local.{local_settled, local_lent, local_row}
use Rattle.thread_group.specs.declared.local_answer.LocalAnswer.{LocalAnswer}
use Rattle.thread_group.specs.OfProcessMemory.declared.local_fault.LocalFault.TheVariants.{Refused, Memory}
use Rattle.guest_proc.specs.Guests.{GuestPart, with_user}
use Rattle.thread_group.specs.Local.{MakesCall, answer_told}

pub error_adds_nothing : (q : Request) (e : Errno) → added_thread q (Error e) ≡ None
unfolding added_thread
error_adds_nothing (Clone flags stack parent_tid tls child_tid) e = refl
error_adds_nothing _ e = refl

pub local_none : (user : UserPart) (t : ℕ) (q : Request) → is_some (map.get user.threads t) ≡ false → user ≡ local_row user t q
unfolding local_row
local_none user t q missing = by_found (map.get user.threads t) missing
  where
    by_found : (found : Option ThreadPart) → is_some found ≡ false → user ≡ local_lent user t q found (lent user.memory q)
    by_found None missing = refl
    by_found (Some thread) missing = cc

pub local_fault : (user : UserPart) (t : ℕ) (q : Request) → is_some (map.get user.threads t) ≡ true → is_some (lent user.memory q) ≡ false → put_fault user t q ≡ local_row user t q
unfolding local_row
local_fault user t q there missing = by_found (map.get user.threads t) (lent user.memory q) there missing
  where
    by_found : (found : Option ThreadPart) (given : Option (List ℕ)) → is_some found ≡ true → is_some given ≡ false → put_fault user t q ≡ local_lent user t q found given
    by_found None given there missing = cc
    by_found (Some thread) None there missing = refl
    by_found (Some thread) (Some bytes) there missing = cc

-- two guests that differ in their user parts alone
pub same_rest : (old new : GuestPart) (user : UserPart) → new.pid ≡ old.pid → new.spare ≡ old.spare → with_user new user ≡ with_user old user
same_rest old new user pid spare = λ k. record { pid = pid k; user = user; spare = spare k }

module _ (before after : UserPart) (t : ℕ) (q : Request) (there : is_some (map.get before.threads t) ≡ true) (lendable : is_some (lent before.memory q) ≡ true) where
  pub local_answered : (answer : LocalAnswer) → MakesCall before after t q (Ok answer) → local_settled before t q (Gives (answer_told after answer)) ≡ local_row before t q
  unfolding local_row
  local_answered answer made = by_found (map.get before.threads t) (lent before.memory q) refl refl there lendable
    where
      by_found : (found : Option ThreadPart) (given : Option (List ℕ)) → map.get before.threads t ≡ found → lent before.memory q ≡ given → is_some found ≡ true → is_some given ≡ true
          → local_settled before t q (Gives (answer_told after answer)) ≡ local_lent before t q found given
      by_found None given found_is given_is there lendable = cc
      by_found (Some thread) None found_is given_is there lendable = cc
      by_found (Some thread) (Some given) found_is given_is there lendable =
          ap (λ attempt. local_settled before t q attempt) (sym (made.row thread given (record { there = found_is; read = given_is })))

  pub local_refused : (e : Errno) → MakesCall before after t q (Err (Refused e)) → put after t q (Error e) [] ≡ local_row before t q
  unfolding local_row
  local_refused e made = by_found (map.get before.threads t) (lent before.memory q) refl refl there lendable
    where
      by_found : (found : Option ThreadPart) (given : Option (List ℕ)) → map.get before.threads t ≡ found → lent before.memory q ≡ given → is_some found ≡ true → is_some given ≡ true
          → put after t q (Error e) [] ≡ local_lent before t q found given
      by_found None given found_is given_is there lendable = cc
      by_found (Some thread) None found_is given_is there lendable = cc
      by_found (Some thread) (Some given) found_is given_is there lendable =
          let row = made.row thread given (record { there = found_is; read = given_is }) in
          ap (λ (u : UserPart). put u t q (Error e) []) row.1 ∙ ap (λ attempt. local_settled before t q attempt) (sym row.0)

  pub local_wanted : MakesCall before after t q (Err Memory) → after ≡ before
  local_wanted made = by_found (map.get before.threads t) (lent before.memory q) refl refl there lendable
    where
      by_found : (found : Option ThreadPart) (given : Option (List ℕ)) → map.get before.threads t ≡ found → lent before.memory q ≡ given → is_some found ≡ true → is_some given ≡ true
          → after ≡ before
      by_found None given found_is given_is there lendable = cc
      by_found (Some thread) None found_is given_is there lendable = cc
      by_found (Some thread) (Some given) found_is given_is there lendable = made.row thread given (record { there = found_is; read = given_is })
