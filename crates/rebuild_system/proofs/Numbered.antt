-- The processes that were made, by pairs of numbers to which pairs of addresses were added since.
--     AreLiving h k procs pids virts      they stand for the kernel part's by these pairs
--     living                              by the pairs that they were made with, and by equal ones
use Rattle.std.proofs.Common.{◌≡◌, ℕ, ◌≤◌, sym, subst}
use Rattle.std.specs.Prelude.{Some}
use Rattle.std.specs.FinMap as map
use Rattle.sys_abi.specs.declared.identity.RealPid.{RealPid}
use Rattle.proc_book.specs.Procs.{ProcTable}
use Rattle.plain_machine.specs.declared.kernel.PlainKernel.{PlainKernel}
use Rattle.host_tables.specs.declared.kernel.Hosts.{Hosts}
use Rattle.host_tables.specs.Numbers.{Pids, Virts, ArePaired, AreNumbered}
use Rattle.host_tables.specs.Processes.{SameProcesses}
use Rattle.host_tables.specs.Systems.{IsNumber}
use Rattle.rebuild_tables.specs.Hosts.{nodes_from}
use Rattle.rebuild_processes.specs.declared.numbered.Numbered.{Numbered}
use Rattle.rebuild_processes.specs.Making.{IsMade}

pub record AreLiving (h : Hosts) (k : PlainKernel) (procs : ProcTable) (pids : Pids)
    (virts : Virts) : Type 0 where
  pub paired : ArePaired pids virts procs.next procs.next
  pub numbered : AreNumbered (nodes_from h) pids k.processes k.makers
  pub processes : SameProcesses pids virts k.processes procs.processes
  pub numbers : (v : ℕ) (r : RealPid) → map.get pids v ≡ Some r → IsNumber k v
  pub given : (v : ℕ) (r : RealPid) → map.get pids v ≡ Some r → h.pid_base ≤ r.pid

pub living : (h : Hosts) (k : PlainKernel) (m : Numbered) → IsMade h k m → (pids : Pids) (virts : Virts)
    → pids ≡ m.ids.pids → virts ≡ m.ids.virts → AreLiving h k m.procs pids virts
living h k m made pids virts same_pids same_virts =
    subst (λ (v : Virts). AreLiving h k m.procs pids v) (sym same_virts)
    (subst (λ (p : Pids). AreLiving h k m.procs p m.ids.virts) (sym same_pids) (record {
      paired = made.told.paired;
      numbered = made.told.numbered;
      processes = made.told.processes;
      numbers = made.told.numbers;
      given = made.from.given;
    }))
