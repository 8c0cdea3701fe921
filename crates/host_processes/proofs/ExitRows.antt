-- The last thread's exit, and exit_group.
--     group_served      a process that has ended
--     last_exit         the last thread takes its process with it
--     last_served       so its exit is served as exit_group
use Rattle.std.proofs.Common.{◌≡◌, ℕ, true, false, List, Option, Some, None, refl, sym, ap, subst, arith}
use Rattle.std.specs.Prelude.{nat_le, nat_lt, if◌then◌else◌}
use Rattle.std.specs.Option.{option_map_or}
use Rattle.std.specs.FinMap as map
use Rattle.std.proofs.lemmas.Bool.Decides.{nat_tests}
use Rattle.views.specs.Numbers.{Byte}
use Rattle.views.specs.Seen.{Agree}
use Rattle.sys_abi.specs.declared.identity.VPid.{VPid}
use Rattle.sys_abi.specs.declared.identity.RealPid.{RealPid}
use Rattle.proc_book.specs.declared.process.Process as real_process
use Rattle.proc_book.specs.Procs.{threads_at}
use Rattle.plain_process.specs.Attempts.{Try}
use Rattle.plain_tables.specs.declared.process.Process.{Process}
use Rattle.plain_tables.specs.Tables.{thread_count_in, without_thread_entry}
use Rattle.plain_machine.specs.declared.kernel.PlainKernel.{PlainKernel}
use Rattle.plain_machine.specs.Attempts.{Served, replied}
use Rattle.plain_machine.specs.Ends.{exit_status, after_end, thread_ended}
use Rattle.plain_machine.specs.Kernel.{thread_count, at_process}
use Rattle.plain_machine.specs.Kernels.{IsKernel}
use Rattle.plain_machine.specs.Rows.End.{exit_group_row, exit_row}
use Rattle.host_descriptors.specs.OfHostTables.declared.kernel.Kernel.{Kernel}
use Rattle.host_descriptors.specs.OfHostTables.declared.attempt.Attempt.{Attempt}
use Rattle.host_descriptors.specs.OfHostTables.declared.attempt.Attempt.TheVariants as answer
use Rattle.host_descriptors.specs.OfHostTables.Processes.{SameProcess}
use Rattle.host_descriptors.specs.OfHostTables.Serves.{Through, Serves, ByNumber, same}
use Rattle.host_descriptors.specs.OfHostTables.Stands.{Given, Stands}
use Rattle.host_descriptors.proofs.OfHostTables.ProcessChanges.{same_threads}

pub group_served : (g : Given) (old new : Kernel) (k : PlainKernel) (p : VPid) (code : ℕ) (x : List Byte)
    → Stands g None new (after_end k p (exit_status code))
    → Serves ByNumber same g old new x x (answer.Gives 0) (exit_group_row k p code)
unfolding exit_group_row
group_served g old new k p code x stands = record { reply = refl; bytes = refl; stands = stands }

at_most_one : (n m : ℕ) → n ≡ m → false ≡ nat_lt 1 m → nat_le n 1 ≡ true
at_most_one n m e few = grind (arith, nat_tests)

module _ (g : Given) (old : Kernel) (k : PlainKernel) (st : Stands g None old k) (p : VPid) (who : RealPid)
    (paired : map.get g.pids p.0 ≡ Some who) where
  same_count : (o : Option Process) (q : Option real_process.Process)
      → Agree (SameProcess g.pids g.virts p who) o q
      → thread_count_in o ≡ option_map_or (λ y. map.len y.threads) q 0
  same_count None None is = refl
  same_count None (Some y) is = absurd is
  same_count (Some x) None is = absurd is
  same_count (Some x) (Some y) is = sym (same_threads g None old k st p who paired x y is)

  pub last_exit : false ≡ nat_lt 1 (threads_at old.procs.processes who) → (t code : ℕ)
      → exit_row k p t code ≡ exit_group_row k p code
  unfolding exit_row exit_group_row thread_ended
  last_exit few t code =
      ap (λ b. replied (if b then after_end k p (exit_status code) else at_process k p (without_thread_entry t)) 0)
      (at_most_one (thread_count k p) (threads_at old.procs.processes who)
      (same_count (map.get k.processes p) (map.get old.procs.processes who) (st.processes.at p who paired)) few)

  -- where its thread is the last
  pub last_served : (whole : IsKernel k) (mid new : Kernel) → mid ≡ old → (a : Attempt) (code : ℕ)
      → Through mid who (λ g k p. (x : List Byte)
      → Serves ByNumber same g mid new x x a (exit_group_row k p code))
      → false ≡ nat_lt 1 (threads_at old.procs.processes who) → (t : ℕ) (x : List Byte)
      → Serves ByNumber same g old new x x a (exit_row k p t code)
  last_served whole mid new kept a code served few t x =
      subst (λ (r : Kernel). Serves ByNumber same g r new x x a (exit_row k p t code)) kept
      (subst (λ (m : Try Served). Serves ByNumber same g mid new x x a m) (sym (last_exit few t code))
      (served g k p whole (subst (λ (r : Kernel). Stands g None r k) (sym kept) st) paired x))
