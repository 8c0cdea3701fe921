-- A call that no process answers alone.
--     IsOther q      it is none of those      no_row      it answers that there is no such call
use Rattle.std.proofs.Common.{◌≡◌, ℕ, List, refl}
use Rattle.call_table.specs.declared.request.Request.{Request}
use Rattle.call_table.specs.declared.request.Request.TheVariants.{SetTidAddress, Futex, SchedYield, RtSigaction, RtSigprocmask, RtSigreturn, Gettid, Brk, Munmap, Mmap}
use Rattle.plain_process.specs.declared.user_part.UserPart.{UserPart}
use Rattle.plain_process.specs.declared.user_part.ThreadPart.{ThreadPart}
use Rattle.plain_process.specs.Attempts.{Fails}
use Rattle.plain_process.specs.Local.{local_by}

pub record IsOther (q : Request) : Type 0 where
  pub set_tid_address : (a : ℕ) → q ≡ SetTidAddress a → ⊥
  pub futex : (a b c d : ℕ) → q ≡ Futex a b c d → ⊥
  pub sched_yield : q ≡ SchedYield → ⊥
  pub sigaction : (a b c d : ℕ) → q ≡ RtSigaction a b c d → ⊥
  pub sigprocmask : (a b c d : ℕ) → q ≡ RtSigprocmask a b c d → ⊥
  pub sigreturn : q ≡ RtSigreturn → ⊥
  pub gettid : q ≡ Gettid → ⊥
  pub brk : (a : ℕ) → q ≡ Brk a → ⊥
  pub munmap : (a b : ℕ) → q ≡ Munmap a b → ⊥
  pub mmap : (a b c d e f : ℕ) → q ≡ Mmap a b c d e f → ⊥

pub no_row : (user : UserPart) (t : ℕ) (thread : ThreadPart) (q : Request) (given : List ℕ) → IsOther q → local_by user t thread q given ≡ Fails 38
unfolding local_by
no_row user t thread (SetTidAddress a) given other = absurd (other.set_tid_address a refl)
no_row user t thread (Futex a b c d) given other = absurd (other.futex a b c d refl)
no_row user t thread SchedYield given other = absurd (other.sched_yield refl)
no_row user t thread (RtSigaction a b c d) given other = absurd (other.sigaction a b c d refl)
no_row user t thread (RtSigprocmask a b c d) given other = absurd (other.sigprocmask a b c d refl)
no_row user t thread RtSigreturn given other = absurd (other.sigreturn refl)
no_row user t thread Gettid given other = absurd (other.gettid refl)
no_row user t thread (Brk a) given other = absurd (other.brk a refl)
no_row user t thread (Munmap a b) given other = absurd (other.munmap a b refl)
no_row user t thread (Mmap a b c d e f) given other = absurd (other.mmap a b c d e f refl)
no_row user t thread _ given other = refl
