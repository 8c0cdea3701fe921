-- Who lives after the end of a process, with which threads.
--     Ended before p after      kernel_ended
use Rattle.std.proofs.Common.{◌≡◌, ◌≢◌, ℕ, ◌<◌, ◌≤◌, Bool, true, false, cond, refl, sym, ap, ◌∙◌, arith, ⊎_elim}
use Rattle.std.specs.Prelude.{◌&&◌, not, Option, Some, None, is_some, option_map}
use Rattle.std.specs.Ordering.{nat_cmp}
use Rattle.std.specs.FinMap as map
use Rattle.plain_tables.specs.OfViews.Limits.{DESCRIPTOR_LIMIT}
use Rattle.plain_tables.specs.OfViews.Maps.{option_filter}
use Rattle.plain_tables.proofs.OfViews.MapLaws.{get_insert_same, get_remove_same, get_remove_other, true_false}
use Rattle.plain_tables.specs.OfSysAbi.declared.identity.VPid.{VPid}
use Rattle.plain_tables.specs.OfSysAbi.declared.signals.TheConstants.{SIGCHLD}
use Rattle.plain_tables.specs.OfSysAbi.declared.life.Life.{Life}
use Rattle.plain_tables.specs.OfSysAbi.declared.life.Life.TheVariants.{Live, Zombie}
use Rattle.plain_tables.specs.OfSysAbi.Lives.{lives}
use Rattle.plain_tables.proofs.OfSysAbi.OrderLaws.{vpid_total, vpid_exact}
use Rattle.plain_machine.specs.declared.kernel.PlainKernel.{PlainKernel}
use Rattle.plain_tables.specs.declared.process.Process.{Process}
use Rattle.plain_tables.specs.Tables.{NOBODY, Processes, pid, is_live_process, has_thread_in, changed_by, changed_at, raised_for_all}
use Rattle.plain_tables.specs.Ends.{is_child_of, is_zombie_child, orphan, orphaned, zombie}
use Rattle.plain_tables.specs.Valid.Processes.{AreProcesses, FitsLife}
use Rattle.plain_machine.specs.Kernel.{is_live, has_thread, after_raise_for_all, without_process}
use Rattle.plain_machine.specs.Ends.{closed_below, with_zombie, left_to, left_by, without_holds, after_end}
use Rattle.plain_machine.specs.Kernels.{IsKernel}
use Rattle.plain_tables.proofs.Orphans.{orphan_life, orphan_threads, look_up}
use Rattle.plain_tables.proofs.Changes.{changed_other, changed_test}
use Rattle.plain_machine.proofs.WholeClosing.{closed_below_closes}

-- the others live as before, with their threads
pub record Ended (before : PlainKernel) (p : VPid) (after : PlainKernel) : Type 0 where
  pub live : (r : VPid) → r ≢ p → is_live after r ≡ is_live before r
  pub threads : (r : VPid) (u : ℕ) → r ≢ p → has_thread after r u ≡ has_thread before r u
  pub gone : is_live after p ≡ false
  pub next_id : after.next_id ≡ before.next_id

-- a zombie has no threads
no_thread : (threads : map.FinMap nat_cmp ℕ) (u : ℕ) → map.len threads ≡ 0 → is_some (map.get threads u) ≡ false
no_thread threads u none =
    let empty : threads ≡ map.empty = map.empty_of_len threads none in
    ap (λ (m : map.FinMap nat_cmp ℕ). is_some (map.get m u)) empty ∙ ap is_some (map.get-empty {X = ℕ} nat_cmp u)

pub no_thread_of : (life : Life) (threads : map.FinMap nat_cmp ℕ) (pending u : ℕ) → lives life ≡ false → FitsLife life threads pending → is_some (map.get threads u) ≡ false
no_thread_of Live threads pending u dead fits = true_false dead
no_thread_of (Zombie status) threads pending u dead fits = no_thread threads u fits.0

-- the children of a process without their parent
child_died : (child alive : Bool) → (child && not alive) ≡ true → alive ≡ false
child_died true true gone = sym gone
child_died false true gone = true_false (sym gone)
child_died child false gone = refl

module _ (p : VPid) (next_id : ℕ) (processes : Processes) (are : AreProcesses next_id processes) (r : VPid) where
  abbrev left_of : Option Process → Option Process
  left_of found = option_map (orphan p) (option_filter (λ x. not (is_zombie_child p x)) found)

  live_by : (found : Option Process) → is_live_process (left_of found) ≡ is_live_process found
  live_by None = refl
  live_by (Some old) = chosen (is_zombie_child p old) refl
    where
      chosen : (b : Bool) → is_zombie_child p old ≡ b → is_live_process (option_map (orphan p) (cond (not b) (Some old) None)) ≡ lives old.life
      chosen true gone = sym (child_died (is_child_of p old) (lives old.life) gone)
      chosen false stays = ap lives (orphan_life p old)

  thread_by : (u : ℕ) (found : Option Process) → map.get processes r ≡ found → has_thread_in u (left_of found) ≡ has_thread_in u found
  thread_by u None there = refl
  thread_by u (Some old) there = chosen (is_zombie_child p old) refl
    where
      chosen : (b : Bool) → is_zombie_child p old ≡ b → has_thread_in u (option_map (orphan p) (cond (not b) (Some old) None)) ≡ is_some (map.get old.threads u)
      chosen true gone = sym (no_thread_of old.life old.threads old.pending u (child_died (is_child_of p old) (lives old.life) gone) (are.each r old there).life)
      chosen false stays = ap (λ threads. is_some (map.get threads u)) (orphan_threads p old)

  orphans_live : is_live_process (map.get (orphaned p processes) r) ≡ is_live_process (map.get processes r)
  orphans_live = ap is_live_process (look_up p processes r) ∙ live_by (map.get processes r)

  orphans_threads : (u : ℕ) → has_thread_in u (map.get (orphaned p processes) r) ≡ has_thread_in u (map.get processes r)
  orphans_threads u = ap (has_thread_in u) (look_up p processes r) ∙ thread_by u (map.get processes r) refl

-- its own entry
zombie_dead : (processes : Processes) (p : VPid) (status : ℕ) (found : Option Process) → map.get processes p ≡ found → is_live_process (map.get (changed_by processes p (zombie status) found) p) ≡ false
zombie_dead processes p status None none = ap is_live_process none
zombie_dead processes p status (Some process) found = ap is_live_process (get_insert_same vpid_total vpid_exact processes p (zombie status process))

-- what is left of the kernel part: nobody else has ended
record Left (before left : PlainKernel) : Type 0 where
  live : (r : VPid) → is_live left r ≡ is_live before r
  threads : (r : VPid) (u : ℕ) → has_thread left r u ≡ has_thread before r u
  next_id : left.next_id ≡ before.next_id

left_over : (k : PlainKernel) (p : VPid) → IsKernel k → Left k (without_holds k p)
unfolding is_live
left_over k p is =
    let closes = closed_below_closes k p DESCRIPTOR_LIMIT in
    record {
      live = λ r. ap (λ processes. is_live_process (map.get (orphaned p processes) r)) closes.processes ∙ orphans_live p k.next_id k.processes is.processes r;
      threads = λ r u. ap (λ processes. has_thread_in u (map.get (orphaned p processes) r)) closes.processes ∙ orphans_threads p k.next_id k.processes is.processes r u;
      next_id = closes.next_id;
    }

module _ (k left : PlainKernel) (p : VPid) (status : ℕ) (kept : Left k left) where
  without_it : Ended k p (without_process p left)
  unfolding is_live
  without_it = record {
    live = λ r other. ap is_live_process (get_remove_other vpid_total vpid_exact left.processes p r other) ∙ kept.live r;
    threads = λ r u other. ap (has_thread_in u) (get_remove_other vpid_total vpid_exact left.processes p r other) ∙ kept.threads r u;
    gone = ap is_live_process (get_remove_same vpid_total vpid_exact left.processes p);
    next_id = kept.next_id;
  }

  as_zombie : (parent : VPid) → Ended k p (with_zombie (after_raise_for_all left parent SIGCHLD) p status)
  unfolding is_live after_raise_for_all
  as_zombie parent =
      let told : Processes = changed_at left.processes parent (raised_for_all SIGCHLD) in
      record {
        live = λ r other. ap is_live_process (changed_other vpid_total vpid_exact told p (zombie status) r other)
            ∙ changed_test vpid_total vpid_exact left.processes parent (raised_for_all SIGCHLD) is_live_process (λ process there. refl) r ∙ kept.live r;
        threads = λ r u other. ap (has_thread_in u) (changed_other vpid_total vpid_exact told p (zombie status) r other)
            ∙ changed_test vpid_total vpid_exact left.processes parent (raised_for_all SIGCHLD) (has_thread_in u) (λ process there. refl) r ∙ kept.threads r u;
        gone = zombie_dead told p status (map.get told p) refl;
        next_id = kept.next_id;
      }

  either_way : (parent : VPid) → Ended k p (left_to left p status parent)
  either_way parent = chosen (is_live left parent)
    where
      chosen : (b : Bool) → Ended k p (cond b (with_zombie (after_raise_for_all left parent SIGCHLD) p status) (without_process p left))
      chosen true = as_zombie parent
      chosen false = without_it

pub kernel_ended : (k : PlainKernel) (p : VPid) (status : ℕ) → IsKernel k → is_live k p ≡ true → Ended k p (after_end k p status)
unfolding is_live after_end
kernel_ended k p status is alive = by_found (map.get k.processes p) alive
  where
    by_found : (found : Option Process) → is_live_process found ≡ true → Ended k p (left_by (without_holds k p) p status found)
    by_found None lives = true_false (sym lives)
    by_found (Some process) lives = either_way k (without_holds k p) p status (left_over k p is) (pid process.parent)
