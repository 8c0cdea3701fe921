-- A child that has ended and was waited for is gone: what a wait finds is such a child, and without it the kernel part is whole, and the same processes live.
--     IsEnded processes q status      found_ended, whole_reaped, reaped_same
use Rattle.std.proofs.Common.{◌≡◌, ◌≢◌, ℕ, ◌<◌, ◌≤◌, Bool, true, false, cond, List, [], ◌∷◌, refl, sym, ap, subst, ◌∙◌, arith, ⊎_elim}
use Rattle.std.specs.Prelude.{Option, Some, None}
use Rattle.std.specs.FinMap as map
use Rattle.plain_tables.proofs.OfViews.MapLaws.{get_remove_same, get_remove_other, same_key, same_or_other, true_false}
use Rattle.plain_tables.proofs.OfViews.MapValues.{EachEntry, each_entry}
use Rattle.plain_tables.specs.OfSysAbi.declared.identity.VPid.{VPid}
use Rattle.plain_tables.specs.OfSysAbi.declared.identity.Slot.{Slot}
use Rattle.plain_tables.specs.OfSysAbi.declared.life.Life.{Life}
use Rattle.plain_tables.specs.OfSysAbi.declared.life.Life.TheVariants.{Live, Zombie}
use Rattle.plain_tables.specs.OfSysAbi.Lives.{lives}
use Rattle.plain_tables.proofs.OfSysAbi.OrderLaws.{vpid_total, vpid_exact, slot_total, slot_exact, desc_total, desc_exact}
use Rattle.plain_tables.specs.OfPlainProcess.Valid.{Each}
use Rattle.plain_machine.specs.declared.kernel.PlainKernel.{PlainKernel}
use Rattle.plain_tables.specs.declared.waiting.Waiting.{Waiting}
use Rattle.plain_tables.specs.declared.waiting.Waiting.TheVariants.{NoChild, NotReady, Ended}
use Rattle.plain_tables.specs.declared.process.Process.{Process}
use Rattle.plain_tables.specs.OfSysAbi.declared.descriptor.Descriptor.{Descriptor}
use Rattle.plain_tables.specs.declared.description.Description.{Description}
use Rattle.plain_tables.specs.Tables.{FIRST_PID, Processes, pid, is_live_process, has_thread_in, refers_to, is_held}
use Rattle.plain_tables.specs.Ends.{is_child_of}
use Rattle.plain_tables.specs.Valid.Processes.{HasParent}
use Rattle.plain_machine.specs.Kernel.{is_live, has_thread, without_process}
use Rattle.plain_tables.specs.Waits.{wait_of, wait_by, ended_first, wait_any, wait_for}
use Rattle.plain_machine.specs.Kernels.{IsKernel}
use Rattle.plain_tables.proofs.Entries.{some_passes}
use Rattle.plain_machine.proofs.KernelThreads.{SameProcesses}
use Rattle.plain_machine.proofs.EndedKernels.{no_thread_of}
use Rattle.plain_machine.proofs.WholeEnds.{whole_without_process}

pub record IsEnded (processes : Processes) (q : VPid) (status : ℕ) : Type 0 where
  pub process : Process
  pub there : map.get processes q ≡ Some process
  pub life : process.life ≡ Zombie status

-- what a wait finds
module _ (processes : Processes) where
  abbrev FindsEnded : Waiting → Type 0
  FindsEnded found = (q : VPid) (status : ℕ) → found ≡ Ended q status → IsEnded processes q status

  ended_there : (r : VPid) (process : Process) (status : ℕ) → map.get processes r ≡ Some process → process.life ≡ Zombie status → FindsEnded (Ended r status)
  ended_there r process status there life q s is =
      let same : r ≡ q = cc in
      let told : status ≡ s = cc in
      subst (λ x. IsEnded processes x s) same (record { process = process; there = there; life = life ∙ ap Zombie told })

  by_life : (r : VPid) (process : Process) (later : Waiting) → map.get processes r ≡ Some process → FindsEnded later → (life : Life) → process.life ≡ life → FindsEnded (ended_first r life later)
  by_life r process later there rest (Zombie status) life q s is = ended_there r process status there life q s is
  by_life r process (Ended s status) there rest Live life q told is = rest q told is
  by_life r process NoChild there rest Live life q status is = cc
  by_life r process NotReady there rest Live life q status is = cc

  by_child : (e : VPid × Process) (later : Waiting) → map.get processes e.0 ≡ Some e.1 → FindsEnded later → (child : Bool) → FindsEnded (cond child (ended_first e.0 e.1.life later) later)
  by_child e later there rest true = by_life e.0 e.1 later there rest e.1.life refl
  by_child e later there rest false = rest

  any_ended : (p : VPid) (es : List (VPid × Process)) → EachEntry (λ q process. map.get processes q ≡ Some process) es → FindsEnded (wait_any p es)
  any_ended p [] each q status is = cc
  any_ended p (e ∷ es) each q status is = by_child e (wait_any p es) each.0 (any_ended p es each.1) (is_child_of p e.1) q status is

  one_by_life : (r : VPid) (process : Process) → map.get processes r ≡ Some process → (life : Life) → process.life ≡ life → FindsEnded (wait_of r life)
  one_by_life r process there Live life q status is = cc
  one_by_life r process there (Zombie status) life q s is = ended_there r process status there life q s is

  one_by_child : (r : VPid) (process : Process) → map.get processes r ≡ Some process → (child : Bool) → FindsEnded (cond child (wait_of r process.life) NoChild)
  one_by_child r process there true q status is = one_by_life r process there process.life refl q status is
  one_by_child r process there false q status is = cc

  one_ended : (p r : VPid) (found : Option Process) → map.get processes r ≡ found → FindsEnded (wait_by p r found)
  one_ended p r None there q status is = cc
  one_ended p r (Some process) there q status is = one_by_child r process there (is_child_of p process) q status is

  pub found_ended : (p : VPid) (child : Option VPid) → FindsEnded (wait_for processes p child)
  found_ended p None = any_ended p (map.entries processes) (each_entry vpid_total vpid_exact (λ q process. map.get processes q ≡ Some process) processes (λ q process there. there))
  found_ended p (Some child) = one_ended p child (map.get processes child) refl

-- without it
module _ (k : PlainKernel) (q : VPid) (status : ℕ) (is : IsKernel k) (ended : IsEnded k.processes q status) where
  first : FIRST_PID ≤ q.0
  first = (is.processes.each q ended.process ended.there).number.0

  pub ended_number : q.0 < k.next_id
  ended_number = (is.processes.each q ended.process ended.there).number.1

  dead : is_live k q ≡ false
  unfolding is_live
  dead = ap is_live_process ended.there ∙ ap lives ended.life

  not_live : (r : VPid) → is_live k r ≡ true → r ≢ q
  not_live r alive same = true_false (sym alive ∙ ap (is_live k) same ∙ dead)

  not_parent : (r : VPid) (parent : ℕ) (life : Life) → HasParent k.processes k.makers r parent life → parent ≢ q.0
  unfolding is_live
  not_parent r parent Live has same = ⊎_elim (λ nobody. let low = first in omega arith) (λ one. not_live (pid parent) one.alive (ap pid same)) has
  not_parent r parent (Zombie s) has same = not_live (pid parent) has.0.alive (ap pid same)

  holders : Each k.descriptors (λ at descriptor. at.pid ≢ q)
  unfolding is_live
  holders at descriptor found = not_live at.pid (is.descriptors.alive at descriptor found)

  not_owned : (at : Slot) (descriptor : Descriptor) (description : Description) → map.get k.descriptors at ≡ Some descriptor → map.get k.descriptions descriptor.desc ≡ Some description → description.owner ≢ q.0
  unfolding is_live
  not_owned at descriptor description found there same = ⊎_elim
      (λ nobody. let low = first in omega arith)
      (λ one. not_live (pid description.owner) one.0 (ap pid same))
      (is.holders.owner at descriptor description found there)

  -- whoever owns a description is known by one that holds it
  owners : Each k.descriptions (λ d description. description.owner ≢ q.0)
  unfolding is_held
  owners d description there same =
      some_passes slot_total slot_exact (refers_to d) k.descriptors (is.descriptions.held d description there) (λ at descriptor found. refuses at descriptor found (refers_to d descriptor) refl)
    where
      refuses : (at : Slot) (descriptor : Descriptor) → map.get k.descriptors at ≡ Some descriptor → (b : Bool) → refers_to d descriptor ≡ b → b ≡ false
      refuses at descriptor found true refers =
          let here : d ≡ descriptor.desc = same_key desc_total desc_exact d descriptor.desc refers in
          absurd (not_owned at descriptor description found (ap (map.get k.descriptions) (sym here) ∙ there) same)
      refuses at descriptor found false refers = refl

  pub whole_reaped : IsKernel (without_process q k)
  whole_reaped = whole_without_process k q is (λ r process there. not_parent r process.parent process.life (is.parents.each r process there)) holders owners

  -- the same processes live, with the same threads
  no_thread : (u : ℕ) → has_thread k q u ≡ false
  no_thread u = ap (has_thread_in u) ended.there ∙ no_thread_of ended.process.life ended.process.threads ended.process.pending u (ap lives ended.life) (is.processes.each q ended.process ended.there).life

  gone : map.get (without_process q k).processes q ≡ None
  gone = get_remove_same vpid_total vpid_exact k.processes q

  pub reaped_same : SameProcesses k (without_process q k)
  unfolding is_live
  reaped_same = record {
    live = λ r. ⊎_elim
        (λ here. subst (λ x. is_live (without_process q k) x ≡ is_live k x) (sym here) (ap is_live_process gone ∙ sym dead))
        (λ other. ap is_live_process (get_remove_other vpid_total vpid_exact k.processes q r other))
        (same_or_other vpid_total vpid_exact r q);
    threads = λ r u. ⊎_elim
        (λ here. subst (λ x. has_thread (without_process q k) x u ≡ has_thread k x u) (sym here) (ap (has_thread_in u) gone ∙ sym (no_thread u)))
        (λ other. ap (has_thread_in u) (get_remove_other vpid_total vpid_exact k.processes q r other))
        (same_or_other vpid_total vpid_exact r q);
  }
