-- What holds of each kernel call, whatever its row: one law, which each row meets.
--     IsAsked k p t q given           a thread of a valid kernel part asks for the call that reads these bytes
--     IsServed k p t q given served   what the call then leaves and answers
--     there_after t q reply u was     whether the thread u is there after the answer of a call of t
use Rattle.std.specs.Prelude.{◌≡◌, ◌≢◌, ℕ, ◌<◌, ◌≤◌, Bool, true, false, List, [], length, Option, Some, None, All, if◌then◌else◌}
use Rattle.std.specs.Ordering.{nat_cmp, eq_by_cmp}
use Rattle.plain_tables.specs.OfSysAbi.declared.identity.VPid.{VPid}
use Rattle.plain_tables.specs.OfSysAbi.declared.reply.Reply.{Reply}
use Rattle.plain_tables.specs.OfCallTable.declared.request.Request.{Request}
use Rattle.plain_tables.specs.OfCallTable.declared.request.Request.TheVariants.{Exit}
use Rattle.plain_tables.specs.OfSysAbi.declared.transfer.TheConstants.{TRANSFER_LIMIT}
use Rattle.plain_tables.specs.Tables.{pid}
use Rattle.plain_tables.specs.OfPlainProcess.Memory.{Memory}
use Rattle.plain_tables.specs.OfPlainProcess.Buffers.{lent, filled_spans}
use Rattle.plain_tables.specs.OfPlainProcess.Put.{word_of, added_thread, made_by, CanTake}
use Rattle.plain_tables.specs.OfPlainProcess.Valid.{IsWord, IsByte, IsRequest}
use Rattle.plain_machine.specs.declared.kernel.PlainKernel.{PlainKernel}
use Rattle.plain_machine.specs.Attempts.{Served}
use Rattle.plain_machine.specs.Kernel.{is_live, has_thread, thread_count}
use Rattle.plain_machine.specs.Valid.{IsKernel}

pub record IsAsked (k : PlainKernel) (p : VPid) (t : ℕ) (q : Request) (given : List ℕ) : Type 0 where
  pub kernel : IsKernel k
  pub alive : is_live k p ≡ true
  pub thread : has_thread k p t ≡ true
  pub request : IsRequest q
  pub bytes : All IsByte given
  pub short : length given ≤ TRANSFER_LIMIT

-- the caller's threads: an exit's ends it, and a clone's answer may add one
abbrev pub without_one : ℕ → ℕ → Bool → Bool
without_one t u was = if eq_by_cmp nat_cmp u t then false else was

abbrev pub with_one : Option ℕ → ℕ → Bool → Bool
with_one None u was = was
with_one (Some new) u was = if eq_by_cmp nat_cmp u new then true else was

unfoldable pub there_after : ℕ → Request → Reply → ℕ → Bool → Bool
there_after t (Exit code) reply u was = without_one t u was
there_after t q reply u was = with_one (added_thread q reply) u was

-- a thread that the answer adds has a free number, and there is room for it
abbrev pub MayAdd : PlainKernel → VPid → Option ℕ → Type 0
MayAdd k p None = Unit {0}
MayAdd k p (Some new) = IsWord new × (has_thread k p new ≡ false) × (thread_count k p < 64)

-- a child that the answer makes has the next number and one thread of that number;
-- that number is nobody's where the answer makes none
abbrev pub IsMade : PlainKernel → PlainKernel → Option ℕ → Type 0
IsMade before after None = is_live after (pid before.next_id) ≡ false
IsMade before after (Some new) =
    (new ≡ before.next_id) × (is_live after (pid before.next_id) ≡ true)
    × ((u : ℕ) → has_thread after (pid before.next_id) u ≡ with_one (Some before.next_id) u false)

-- an answer: its bytes can be put where the call asked for them,
-- and the console gets all that the call read, or nothing
pub record IsAnswer (q : Request) (given : List ℕ) (served : Served) : Type 0 where
  pub reply : IsWord (word_of served.reply)
  pub bytes : All IsByte served.bytes
  pub short : length served.bytes ≤ TRANSFER_LIMIT
  pub room : (memory : Memory) → lent memory q ≡ Some given
      → CanTake memory (filled_spans memory q) served.bytes
  pub is_shown : Bool
  pub console : served.console ≡ (if is_shown then given else [])

-- the others live as before, with the threads that they had, but for a child that the answer makes
pub record IsServed (k : PlainKernel) (p : VPid) (t : ℕ) (q : Request) (given : List ℕ)
    (served : Served) : Type 0 where
  pub kernel : IsKernel served.kernel
  pub answer : IsAnswer q given served
  pub live : (r : VPid) → r ≢ p → r ≢ pid k.next_id → is_live served.kernel r ≡ is_live k r
  pub elsewhere : (r : VPid) (u : ℕ) → r ≢ p → r ≢ pid k.next_id
      → has_thread served.kernel r u ≡ has_thread k r u
  pub here : (u : ℕ) → is_live served.kernel p ≡ true
      → has_thread served.kernel p u ≡ there_after t q served.reply u (has_thread k p u)
  pub made : IsMade k served.kernel (made_by q served.reply)
  pub adds : MayAdd k p (added_thread q served.reply)
  pub later : k.next_id ≤ served.kernel.next_id
