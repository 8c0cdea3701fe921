-- A process that ends right after its start, for a live parent whose pending signals stay as they were.
--     ended_had      the parent had the signal that an end raises
--     ended_taken    it had not, and it is taken away again
use Rattle.std.proofs.Common.{◌≡◌, ◌≢◌, ℕ, ◌^◌, arith, true, false, cond, Option, Some, None, refl, sym, ap, ◌∙◌}
use Rattle.std.specs.Prelude.{◌&&◌, ◌==◌, not, if◌then◌else◌}
use Rattle.std.specs.Option.{option_map, option_map_or}
use Rattle.std.specs.FinMap as map
use Rattle.std.proofs.lemmas.Nat.{and_or_self}
use Rattle.views.specs.Maps.{option_filter, retain}
use Rattle.views.proofs.MapLaws.{true_false, get_insert_same, get_insert_other, insert_insert, insert_same, insert_apart}
use Rattle.views.proofs.MapValues.{get-map_values, get-retained}
use Rattle.sys_abi.specs.declared.identity.RealPid.{RealPid}
use Rattle.sys_abi.specs.Signals.{has_signal, without_signal}
use Rattle.sys_abi.proofs.OrderLaws.{real_pid_total, real_pid_exact}
use Rattle.virt_ids.specs.Changes.{at_key}
use Rattle.proc_book.specs.declared.process.Process.{Process}
use Rattle.proc_book.specs.Processes.{is_live, is_child_of, raised, signals_of, zombie}
use Rattle.proc_book.specs.Processes as words
use Rattle.proc_book.specs.Ends.{Processes, is_zombie_child, orphan, orphaned, is_live_at, left_by, ended_by, after_end}
use Rattle.proc_book.specs.Procs.{pending_of, after_take}
use Rattle.proc_book.specs.Waits.{IsChildless}
use Rattle.rebuild_processes.specs.Making.{IsLiveChild}
use Rattle.rebuild_processes.proofs.RaisedSets.{at_key_is}
use Rattle.rebuild_processes.proofs.TakenSignal.{raised_again, raised_taken}

module _ (m : Processes) (r parent : RealPid) (status : ℕ)
    (is_new : IsLiveChild m r parent) (childless : IsChildless m r)
    (apart : parent ≢ r) (lives : is_live_at m parent ≡ true)
    (none : pending_of (Some 0) (map.get m parent) ≡ 0) where
  keeps : (q : RealPid) (o : Option Process) → map.get m q ≡ o
      → option_map (orphan r) (option_filter (λ y. not (is_zombie_child r y)) o) ≡ o
  keeps q None e = refl
  keeps q (Some y) e =
      let no = childless q y e in
      ap (λ b. option_map (orphan r) (cond (not (b && not (is_live y))) (Some y) None)) no
      ∙ ap Some (ap (λ b. if b then record y { parent = None } else y) no)

  orphans_none : orphaned r m ≡ m
  orphans_none =
      map.same_map real_pid_total real_pid_exact (orphaned r m) m
      (λ q. get-map_values (orphan r) (retain (λ s y. not (is_zombie_child r y)) m) q
      ∙ ap (option_map (orphan r)) (get-retained real_pid_total real_pid_exact (λ s y. not (is_zombie_child r y)) m q)
      ∙ keeps q (map.get m q) refl)

  ended : after_end m r status ≡ at_key (at_key m parent (raised None 17)) r (zombie status)
  ended =
      ap (λ o. ended_by r status o m) is_new.there
      ∙ ap (λ b. if b then left_by r status is_new.process.parent (orphaned r m) else m) is_new.lives
      ∙ ap (λ o. left_by r status o (orphaned r m)) is_new.of
      ∙ ap (left_by r status (Some parent)) orphans_none
      ∙ ap (λ b. if b then at_key (at_key m parent (raised None 17)) r (zombie status) else map.remove m r)
      lives

  live_there : (o : Option Process) → option_map_or is_live o false ≡ true → (y : Process) × (o ≡ Some y)
  live_there None h = true_false (sym h)
  live_there (Some y) h = (y, refl)

  its : (y : Process) × (map.get m parent ≡ Some y)
  its = live_there (map.get m parent) lives

  abbrev left : Process
  left = zombie status is_new.process

  abbrev told : Process
  told = raised None 17 its.0

  abbrev beside : Processes
  beside = map.insert m parent told

  ended_is : after_end m r status ≡ map.insert beside r left
  ended_is =
      ended ∙ ap (λ n. at_key n r (zombie status)) (at_key_is m parent (raised None 17) its.0 its.1)
      ∙ at_key_is beside r (zombie status) is_new.process
      (get_insert_other real_pid_total real_pid_exact m parent told r (λ same. apart (sym same)) ∙ is_new.there)

  parent_same : map.insert m parent its.0 ≡ m
  parent_same = insert_same real_pid_total real_pid_exact m parent its.0 its.1

  pending_is : pending_of None (map.get m parent) ≡ its.0.pending
  pending_is = ap (pending_of None) its.1

  left_is : map.insert m r left ≡ at_key m r (zombie status)
  left_is = sym (at_key_is m r (zombie status) is_new.process is_new.there)

  pub ended_had : has_signal (pending_of None (map.get m parent)) 17 ≡ true
      → after_end m r status ≡ at_key m r (zombie status)
  ended_had has =
      let same : told ≡ its.0 = ap (λ n. record its.0 { pending = n })
      (raised_again its.0.pending 16 (omega arith) (ap (λ n. has_signal n 17) (sym pending_is) ∙ has)) in
      ended_is ∙ ap (λ n. map.insert n r left) (ap (map.insert m parent) same ∙ parent_same) ∙ left_is

  parent_there : map.get (map.insert beside r left) parent ≡ Some told
  parent_there =
      get_insert_other real_pid_total real_pid_exact beside r left parent apart
      ∙ get_insert_same real_pid_total real_pid_exact m parent told

  thread_none : has_signal (signals_of 0 told) 17 ≡ false
  thread_none = ap (λ n. has_signal n 17) (ap (pending_of (Some 0)) (sym its.1) ∙ none)

  raised_there : has_signal told.pending 17 ≡ true
  raised_there = ap (λ n. not (n == 0)) (and_or_self (2 ^ 16) its.0.pending)

  taken_is : has_signal (pending_of None (map.get m parent)) 17 ≡ false → words.after_take 0 17 told ≡ its.0
  taken_is misses =
      ap (λ b. if b then record told { threads = at_key told.threads 0 (λ set. without_signal set 17) } else
      if has_signal told.pending 17 then record told { pending = without_signal told.pending 17 } else told)
      thread_none
      ∙ ap (λ b. if b then record told { pending = without_signal told.pending 17 } else told) raised_there
      ∙ ap (λ n. record its.0 { pending = n })
      (raised_taken its.0.pending 16 (omega arith) (ap (λ n. has_signal n 17) (sym pending_is) ∙ misses))

  pub ended_taken : has_signal (pending_of None (map.get m parent)) 17 ≡ false
      → after_take (after_end m r status) parent 0 17 ≡ at_key m r (zombie status)
  ended_taken misses =
      ap (λ n. after_take n parent 0 17) ended_is
      ∙ at_key_is (map.insert beside r left) parent (words.after_take 0 17) told parent_there
      ∙ ap (map.insert (map.insert beside r left) parent) (taken_is misses)
      ∙ insert_apart real_pid_total real_pid_exact beside r parent left its.0 (λ same. apart (sym same))
      ∙ ap (λ n. map.insert n r left)
      (insert_insert real_pid_total real_pid_exact m parent told its.0 ∙ parent_same)
      ∙ left_is
