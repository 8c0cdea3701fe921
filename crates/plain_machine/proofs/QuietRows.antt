-- Rows that change no process: their answer is a number, and the law of rows asks for no more than that the kernel part stays whole.
--     same_by      unchanged_meets
use Rattle.std.proofs.Common.{◌≡◌, ℕ, ◌≤◌, true, List, [], ap}
use Rattle.std.specs.FinMap as map
use Rattle.plain_tables.specs.OfSysAbi.declared.identity.VPid.{VPid}
use Rattle.plain_tables.specs.OfSysAbi.declared.reply.Reply.TheVariants.{Value}
use Rattle.plain_tables.specs.OfCallTable.declared.request.Request.{Request}
use Rattle.plain_machine.specs.declared.kernel.PlainKernel.{PlainKernel}
use Rattle.plain_tables.specs.Tables.{Processes, is_live_process, has_thread_in}
use Rattle.plain_tables.specs.OfPlainProcess.Valid.{IsWord}
use Rattle.plain_machine.specs.Kernel.{is_live}
use Rattle.plain_machine.specs.Valid.{IsKernel}
use Rattle.plain_machine.specs.RowLaws.{IsAsked}
use Rattle.plain_machine.proofs.KernelThreads.{SameProcesses}
use Rattle.plain_machine.proofs.RowBounds.{Meets, quiet, stays, meets, leaves_threads}

pub same_by : (k after : PlainKernel) → after.processes ≡ k.processes → SameProcesses k after
unfolding is_live
same_by k after same = record {
  live = λ q. ap (λ (processes : Processes). is_live_process (map.get processes q)) same;
  threads = λ q u. ap (λ (processes : Processes). has_thread_in u (map.get processes q)) same;
}

-- a number that is small, and a kernel part that stays whole
pub record IsSound (value : ℕ) (next : PlainKernel) : Type 0 where
  pub word : IsWord value
  pub kernel : IsKernel next

pub unchanged_meets : (k : PlainKernel) (p : VPid) (t : ℕ) (q : Request) (given : List ℕ) (next : PlainKernel) (value : ℕ) → leaves_threads q ≡ true → next.processes ≡ k.processes → k.next_id ≤ next.next_id
    → (IsAsked k p t q given → IsSound value next) → Meets k p t q given (record { kernel = next; reply = Value value; bytes = []; console = [] })
unchanged_meets k p t q given next value other same later sound = meets k p t q given next value (λ asked. (sound asked).word)
    (λ asked answer. stays k p t q given asked _ answer (sound asked).kernel (same_by k next same) later (quiet t q (Value value) other))
