-- What the laws of read and write are made of.
--     ready_is, access_settles      whether a call waits
--     gave_meets, breaks_pipe       bytes that are given, and a pipe that is broken
--     by_test                       of a choice by a test
use Rattle.std.proofs.Common.{◌≡◌, ℕ, ◌≤◌, Bool, true, false, cond, List, [], length, refl, arith}
use Rattle.std.specs.Prelude.{not, min, is_some, All}
use Rattle.std.specs.FinMap as map
use Rattle.std.proofs.lemmas.List.Elements.{All-nil}
use Rattle.plain_tables.specs.OfSysAbi.declared.identity.VPid.{VPid}
use Rattle.plain_tables.specs.OfSysAbi.declared.errors.TheConstants.{EAGAIN, EPIPE}
use Rattle.plain_tables.specs.OfSysAbi.declared.flags.TheConstants.{O_NONBLOCK}
use Rattle.plain_tables.specs.OfSysAbi.declared.signals.TheConstants.{SIGPIPE}
use Rattle.plain_tables.specs.OfSysAbi.declared.reply.Reply.TheVariants.{Value}
use Rattle.plain_tables.specs.OfCallTable.declared.request.Request.{Request}
use Rattle.plain_tables.specs.OfCallTable.declared.request.Request.TheVariants.{Read}
use Rattle.plain_tables.specs.OfSysAbi.declared.transfer.TheConstants.{TRANSFER_LIMIT}
use Rattle.plain_tables.specs.OfSysAbi.Flags.{has_flag}
use Rattle.plain_machine.specs.declared.kernel.PlainKernel.{PlainKernel}
use Rattle.plain_tables.specs.Tables.{raised_at}
use Rattle.plain_tables.specs.OfPlainProcess.Attempts.{Try, Fails, NotReady, Gives, and_then}
use Rattle.plain_tables.specs.OfPlainProcess.Buffers.{fills_of, writes_of, filled_spans}
use Rattle.plain_tables.specs.OfPlainProcess.Put.{error}
use Rattle.plain_tables.specs.OfPlainProcess.Valid.{IsByte}
use Rattle.plain_machine.specs.Attempts.{Served, refused, settled}
use Rattle.plain_machine.specs.Kernel.{has_thread, after_raise}
use Rattle.plain_machine.specs.Kernels.{IsKernel}
use Rattle.plain_machine.specs.RowLaws.{IsAsked, IsAnswer}
use Rattle.plain_machine.specs.Transfers.Answers.{gave, broken_pipe}
use Rattle.plain_machine.specs.Waiting.{need_ready, waits}
use Rattle.plain_machine.proofs.CallBounds.{lent_room}
use Rattle.plain_machine.proofs.KernelThreads.{SameProcesses, change_keeps, signals_change}
use Rattle.plain_machine.proofs.MemoryPages.{no_bytes_taken}
use Rattle.plain_machine.proofs.QuietRows.{same_by}
use Rattle.plain_machine.proofs.RowBounds.{Meets, Settles, quiet, stays, leaves_threads}
use Rattle.plain_machine.proofs.Trying.{Trying, succeeds}
use Rattle.plain_machine.proofs.WholeChanges.{whole_raise, thread_in}

-- waiting

pub ready_is : (flags : ℕ) (b : Bool) (done : Unit {0}) → need_ready flags b ≡ Gives done → b ≡ true
unfolding need_ready
ready_is flags true done is = refl
ready_is flags false done is = by_flag (has_flag flags O_NONBLOCK) is
  where
    by_flag : (b : Bool) → cond b (Fails EAGAIN) NotReady ≡ Gives done → false ≡ true
    by_flag true is = cc
    by_flag false is = cc

-- what follows the look at the description doesn't wait
pub access_settles : (k : PlainKernel) {A : Type 0} (access : Try A) (next : A → Try Served) → ((a : A) → Settles k (next a)) → is_some (settled k (and_then access next)) ≡ not (waits access)
unfolding and_then
access_settles k (Fails e) next settles = refl
access_settles k NotReady next settles = refl
access_settles k (Gives a) next settles = settles a

pub chosen_settles : (k : PlainKernel) (b : Bool) (first second : Try Served) → Settles k first → Settles k second → Settles k (cond b first second)
chosen_settles k true first second one two = one
chosen_settles k false first second one two = two

pub by_test : {A : Type 0} {P : A → Type 0} (b : Bool) (first second : Try A) → (b ≡ true → Trying first P) → (b ≡ false → Trying second P) → Trying (cond b first second) P
by_test true first second holds other = holds refl
by_test false first second holds other = other refl

-- bytes that are given
pub record IsGift (next : PlainKernel) (bytes : List ℕ) : Type 0 where
  pub kernel : IsKernel next
  pub bytes_are : All IsByte bytes

module _ (k : PlainKernel) (p : VPid) (t fd buffer count : ℕ) (given : List ℕ) where
  gift_answer : (next : PlainKernel) (bytes : List ℕ) → length bytes ≤ min count TRANSFER_LIMIT → length bytes ≤ TRANSFER_LIMIT → All IsByte bytes
      → IsAnswer (Read fd buffer count) given (record { kernel = next; reply = Value (length bytes); bytes = bytes; console = [] })
  unfolding fills_of writes_of
  gift_answer next bytes few short are = record {
    reply = omega arith;
    bytes = are;
    short = short;
    room = λ memory reads. lent_room memory (Read fd buffer count) given bytes reads few;
    is_shown = false;
    console = refl;
  }

  pub gave_meets : (next : PlainKernel) (bytes : List ℕ) → next.processes ≡ k.processes → k.next_id ≤ next.next_id → length bytes ≤ min count TRANSFER_LIMIT → (IsAsked k p t (Read fd buffer count) given → IsGift next bytes)
      → Trying (gave next bytes) (Meets k p t (Read fd buffer count) given)
  gave_meets next bytes same later few holds =
      let short : length bytes ≤ TRANSFER_LIMIT = within count (length bytes) few in
      succeeds _ (record {
        short = short;
        law = λ asked. let gift = holds asked in
            stays k p t (Read fd buffer count) given asked _ (gift_answer next bytes few short gift.bytes_are) gift.kernel (same_by k next same) later (quiet t (Read fd buffer count) _ refl);
      })
    where
      within : (n m : ℕ) → m ≤ min n TRANSFER_LIMIT → m ≤ TRANSFER_LIMIT
      within n m few = omega arith

-- an error with a signal

raised_living : (k : PlainKernel) (p : VPid) (t s : ℕ) → has_thread k p t ≡ true → SameProcesses k (after_raise k p t s)
unfolding after_raise
raised_living k p t s there = change_keeps k p (raised_at t s) (λ process known. signals_change process t _ (thread_in t (map.get k.processes p) process known there))

error_answer : (q : Request) (given : List ℕ) (k : PlainKernel) → IsAnswer q given (refused k EPIPE)
error_answer q given k = record {
  reply = omega arith;
  bytes = All-nil _;
  short = omega arith;
  room = λ memory reads. no_bytes_taken memory (filled_spans memory q);
  is_shown = false;
  console = refl;
}

pub breaks_pipe : (k : PlainKernel) (p : VPid) (t : ℕ) (q : Request) (given : List ℕ) → leaves_threads q ≡ true → Trying (broken_pipe k p t) (Meets k p t q given)
unfolding after_raise
breaks_pipe k p t q given other = succeeds _ (record {
  short = omega arith;
  law = λ asked. stays k p t q given asked _ (error_answer q given (after_raise k p t SIGPIPE)) (whole_raise k p asked.kernel t SIGPIPE asked.thread) (raised_living k p t SIGPIPE asked.thread) (omega arith) (quiet t q (error EPIPE) other);
})
