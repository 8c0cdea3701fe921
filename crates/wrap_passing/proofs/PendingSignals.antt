-- Who lives, and which signals are pending, as the tables tell it.
--     lives_unpaired, lives_paired                   whether a process lives
--     none_pending, process_pending, thread_pending  signals of a process and a thread
use Rattle.std.proofs.Common.{◌≡◌, ℕ, false, Option, Some, None, Ok, Err, refl, sym, ap, ◌∙◌}
use Rattle.std.specs.Prelude.{bit_or, ok_or, unwrap_or, IsSome}
use Rattle.std.specs.FinMap as map
use Rattle.std.proofs.lemmas.Nat.{or_comm}
use Rattle.std.proofs.lemmas.Option.{none-some}
use Rattle.views.specs.Seen.{Agree}
use Rattle.views.proofs.MapLaws.{true_false}
use Rattle.views.proofs.Seen.{agree_same}
use Rattle.sys_abi.specs.declared.identity.VPid.{VPid}
use Rattle.sys_abi.specs.declared.identity.RealPid.{RealPid}
use Rattle.virt_ids.specs.declared.id_fault.IdFault.{IdFault}
use Rattle.proc_book.specs.declared.process.Process as real_process
use Rattle.proc_book.specs.Procs as procs
use Rattle.plain_tables.specs.declared.process.Process.{Process}
use Rattle.plain_tables.specs.Tables.{pending_in, is_live_process}
use Rattle.plain_machine.specs.declared.kernel.PlainKernel.{PlainKernel}
use Rattle.plain_machine.specs.Kernel.{is_live, pending}
use Rattle.host_tables.specs.declared.kernel.Kernel.{Kernel}
use Rattle.host_tables.specs.Numbers.{to_real_thread}
use Rattle.host_tables.specs.Processes.{SameProcess}
use Rattle.host_tables.specs.Stands.{Given, Stands}

-- what a look-up among the pairs tells
pub found_pair : {A : Type 0} (o : Option A) (f : IdFault) (a : A) → ok_or o f ≡ Ok a → o ≡ Some a
found_pair None f a e = cc
found_pair (Some b) f a e = let same : b ≡ a = cc in ap Some same

pub no_pair : {A : Type 0} (o : Option A) (f g : IdFault) → ok_or o f ≡ Err g → o ≡ None
no_pair None f g e = refl
no_pair (Some b) f g e = cc

module _ (g : Given) (real : Kernel) (k : PlainKernel) (st : Stands g None real k) (p : VPid) where
  no_process : map.get g.pids p.0 ≡ None → (o : Option Process) → map.get k.processes p ≡ o → o ≡ None
  no_process none None is = refl
  no_process none (Some x) is = absurd (unpaired (map.get g.pids p.0) none (st.numbered.process p x is))
    where
      unpaired : (o : Option RealPid) → o ≡ None → IsSome o → ⊥
      unpaired None e some = true_false (sym some)
      unpaired (Some r) e some = none-some r (sym e)

  pub lives_unpaired : map.get g.pids p.0 ≡ None → is_live k p ≡ false
  unfolding is_live
  lives_unpaired none =
      ap is_live_process (no_process none (map.get k.processes p) refl)

  pub none_pending : (t : ℕ) → map.get g.pids p.0 ≡ None → pending k p t ≡ 0
  unfolding pending
  none_pending t none = ap (pending_in t) (no_process none (map.get k.processes p) refl)

  module _ (who : RealPid) (paired : map.get g.pids p.0 ≡ Some who) (t : ℕ) where
    by_process : (o : Option Process) (q : Option real_process.Process) → Agree (SameProcess g.pids g.virts p who) o q
        → to_real_thread g.pids who.node t ≡ None → procs.pending_of None q ≡ pending_in t o
    by_process None None h none = refl
    by_process None (Some y) h none = absurd h
    by_process (Some x) None h none = absurd h
    by_process (Some x) (Some y) h none =
        sym h.pending
        ∙ ap (λ o. bit_or (unwrap_or o 0) x.pending) (sym (h.threads.virt_alone t none))

    pub process_pending : to_real_thread g.pids who.node t ≡ None
        → procs.pending_of None (map.get real.procs.processes who) ≡ pending k p t
    unfolding pending
    process_pending none =
        by_process (map.get k.processes p) (map.get real.procs.processes who) (st.processes.at p who paired) none

    by_thread : (u : ℕ) → to_real_thread g.pids who.node t ≡ Some u → (o : Option Process)
        (q : Option real_process.Process) → Agree (SameProcess g.pids g.virts p who) o q
        → procs.pending_at u q ≡ pending_in t o
    by_thread u leads None None h = refl
    by_thread u leads None (Some y) h = absurd h
    by_thread u leads (Some x) None h = absurd h
    by_thread u leads (Some x) (Some y) h =
        or_comm y.pending (unwrap_or (map.get y.threads u) 0)
        ∙ ap (bit_or (unwrap_or (map.get y.threads u) 0)) (sym h.pending)
        ∙ ap (λ o. bit_or (unwrap_or o 0) x.pending)
        (sym (agree_same (map.get x.threads t) (map.get y.threads u) (h.threads.at t u leads)))

    pub thread_pending : (u : ℕ) → to_real_thread g.pids who.node t ≡ Some u
        → procs.pending real.procs.processes who u ≡ pending k p t
    unfolding pending
    thread_pending u leads =
        by_thread u leads (map.get k.processes p) (map.get real.procs.processes who)
        (st.processes.at p who paired)
