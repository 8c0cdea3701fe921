-- A broken pipe through the pairs.
--     can_be_told      the thread that asks can have a signal raised
--     told_broken      it has SIGPIPE pending, and its write fails
use Rattle.std.proofs.Common.{◌≡◌, ℕ, Bool, true, false, cond, ◌&&◌, List, Option, Some, None, refl, sym, ap, ◌∙◌, subst}
use Rattle.std.specs.Prelude.{IsSome, is_some, option_and_then, if◌then◌else◌}
use Rattle.std.specs.Option.{option_map_or}
use Rattle.std.specs.FinMap as map
use Rattle.std.proofs.lemmas.Bool.{eq-eqb}
use Rattle.views.specs.Numbers.{ThreadNumber, Byte}
use Rattle.sys_abi.specs.declared.errors.TheConstants.{EPIPE}
use Rattle.sys_abi.specs.declared.identity.RealPid.{RealPid}
use Rattle.sys_abi.specs.declared.identity.VPid.{VPid}
use Rattle.sys_abi.specs.declared.signals.TheConstants.{SIGPIPE}
use Rattle.virt_ids.specs.Changes.{at_key}
use Rattle.proc_book.specs.declared.process.Process.{Process}
use Rattle.proc_book.specs.Processes as procs
use Rattle.proc_book.specs.Procs.{ProcTable, can_raise, after_raise}
use Rattle.plain_machine.specs.declared.kernel.PlainKernel.{PlainKernel}
use Rattle.plain_machine.specs.Kernel as plain
use Rattle.plain_machine.specs.Transfers.Answers.{broken_pipe}
use Rattle.host_processes.specs.OfHostTables.declared.attempt.Attempt.TheVariants as answer
use Rattle.host_processes.specs.OfHostTables.declared.kernel.Kernel.{Kernel}
use Rattle.host_processes.specs.OfHostTables.Conditions.{IsAsking}
use Rattle.host_processes.specs.OfHostTables.Numbers.{real, number_on, to_real_thread}
use Rattle.host_processes.specs.OfHostTables.Serves.{Serves, ByNumber, same}
use Rattle.host_processes.specs.OfHostTables.Stands.{Given, Stands}
use Rattle.host_processes.proofs.Raised.{changed_now, raised_for_thread}

lives_by : (o : Option Process) (t : ℕ) → option_map_or procs.is_live o false ≡ true
    → IsSome (option_and_then (λ (x : Process). map.get x.threads t) o)
    → option_map_or (procs.lives_with (Some t)) o false ≡ true
lives_by None t alive there = alive
lives_by (Some x) t alive there = ap (λ b. b && is_some (map.get x.threads t)) alive ∙ there

pub can_be_told : (w : ProcTable) (who : RealPid) (thread : ThreadNumber) → IsAsking w who thread
    → can_raise w.processes who (Some thread) ≡ true
can_be_told w who thread asking = lives_by (map.get w.processes who) thread asking.alive asking.there

on_node : (node n : ℕ) → number_on node (real node n) ≡ Some n
on_node node n = ap (λ b. cond b (Some n) None) (eq-eqb node node refl)

module _ (g : Given) (kernel : Kernel) (k : PlainKernel) (st : Stands g None kernel k) (p : VPid)
    (who : RealPid)
    (paired : map.get g.pids p.0 ≡ Some who) (thread : ThreadNumber)
    (asking : IsAsking kernel.procs who thread)
    (t : ThreadNumber) (at : map.get g.pids t ≡ Some (real who.node thread)) where
  leads : to_real_thread g.pids who.node t ≡ Some thread
  leads = ap (option_and_then (number_on who.node)) at ∙ on_node who.node thread

  raised : Stands g None (changed_now g kernel k st p who paired (procs.raised (Some thread) SIGPIPE))
      (plain.after_raise k p t SIGPIPE)
  raised =
      raised_for_thread g kernel k st p who paired SIGPIPE t thread leads
      (can_be_told kernel.procs who thread asking)

  abbrev now_by : Bool → ProcTable
  now_by b = record kernel.procs {
    processes = if b then at_key kernel.procs.processes who (procs.raised (Some thread) SIGPIPE)
        else kernel.procs.processes;
  }

  pub told_broken : (w : ProcTable)
      → w ≡ record kernel.procs { processes = after_raise kernel.procs.processes who (Some thread) SIGPIPE }
      → (x : List Byte)
      → Serves ByNumber same g kernel (record kernel { procs = w }) x x (answer.Fails (record { 0 = EPIPE }))
      (broken_pipe k p t)
  told_broken w is x = record {
    reply = refl;
    bytes = refl;
    stands = subst (λ (v : ProcTable). Stands g None (record kernel { procs = v })
        (plain.after_raise k p t SIGPIPE))
        (sym (is ∙ ap now_by (can_be_told kernel.procs who thread asking))) raised;
  }
