-- The kernel part stays whole over a change of one process that goes on as it lived, and over a change of a direction.
--     whole_take, whole_raise, whole_raise_for_all, whole_fewer, whole_next_thread, whole_arrival
use Rattle.std.proofs.Common.{◌≡◌, ℕ, ◌+◌, ◌^◌, ◌<◌, ◌≤◌, Bool, true, false, cond, length, refl, sym, ap, subst, ◌∙◌, arith}
use Rattle.std.specs.Prelude.{Option, Some, None, is_some}
use Rattle.std.specs.Cmp.{nat_cmp_total}
use Rattle.std.specs.FinMap as map
use Rattle.plain_tables.proofs.OfViews.MapLaws.{true_false}
use Rattle.plain_tables.specs.OfSysAbi.declared.identity.VPid.{VPid}
use Rattle.plain_tables.specs.OfSysAbi.declared.identity.Dir.{Dir}
use Rattle.plain_tables.specs.OfSysAbi.Lives.{lives}
use Rattle.plain_tables.specs.OfSysAbi.Signals.{has_signal, without_signal}
use Rattle.plain_machine.specs.declared.kernel.PlainKernel.{PlainKernel}
use Rattle.plain_tables.specs.declared.process.Process.{Process}
use Rattle.plain_tables.specs.declared.channel.Direction.{Direction}
use Rattle.plain_tables.specs.Tables.{FIRST_PID, Directions, is_live_process, has_thread_in, thread_count_in, changed_at, signals_of, with_signals, taken_from, raised_at, without_thread_entry, with_thread_entry, raised_for_all}
use Rattle.plain_tables.specs.Valid.Processes.{AreProcesses, IsProcess}
use Rattle.plain_tables.specs.Valid.Channels.{AreChannels, IsDirection}
use Rattle.plain_machine.specs.Kernel.{is_live, at_process, after_take, after_raise, after_raise_for_all, thread_count, has_thread, with_next_thread}
use Rattle.plain_machine.specs.Kernels.{IsKernel}
use Rattle.plain_tables.proofs.Entries.{still_there}
use Rattle.plain_tables.proofs.AlikeProcesses.{changed_alike, makers_alike, parents_alike, descriptors_alike, holders_alike, made_alike}
use Rattle.plain_tables.proofs.ChangedProcesses.{changed_are, next_thread_are}
use Rattle.plain_tables.proofs.DirectionChanges.{direction_keeps}
use Rattle.plain_machine.proofs.ThreadKeys.{same_there}
use Rattle.plain_machine.proofs.KernelThreads.{there_if_signal}
use Rattle.plain_machine.proofs.ProcessBounds.{later, taken_is, taken_lives, raised_is, raised_for_all_is, fewer_is, next_is}

module _ (k : PlainKernel) (p : VPid) (change : Process → Process) (next : ℕ) (is : IsKernel k) (rises : k.next_id ≤ next) (last : next < 2 ^ 31)
    (parent : (process : Process) → (change process).parent ≡ process.parent) (life : (process : Process) → (change process).life ≡ process.life)
    (are : AreProcesses next (changed_at k.processes p change)) where
  pub change_is_whole : IsKernel (record (at_process k p change) { next_id = next })
  change_is_whole =
      let alike = changed_alike k.processes p change parent life in
      let now = changed_at k.processes p change in
      record {
        numbers = record { first_id = let first = is.numbers.first_id in omega arith; last_id = last; first_file = is.numbers.first_file; last_file = is.numbers.last_file };
        processes = are;
        makers = makers_alike k.processes now k.makers alike is.makers;
        parents = parents_alike k.processes now k.makers alike is.parents;
        files = is.files;
        open_files = is.open_files;
        descriptors = descriptors_alike k.processes now k.makers alike k.descriptions k.descriptors is.descriptors;
        descriptions = is.descriptions;
        holders = holders_alike k.processes now k.makers alike k.descriptors k.descriptions is.holders;
        made = made_alike k.processes now k.makers alike k.next_id next rises k.descriptions k.channels is.made;
        channels = is.channels;
        streams = is.streams;
        listeners = is.listeners;
        addresses = is.addresses;
        hosts = is.hosts;
        inboxes = is.inboxes;
        counters = is.counters;
      }

taken_parent : (t s : ℕ) (process : Process) → (taken_from t s process).parent ≡ process.parent
taken_parent t s process = chosen (has_signal (signals_of t process) s)
  where
    chosen : (b : Bool) → (cond b (with_signals process t (without_signal (signals_of t process) s)) (record process { pending = without_signal process.pending s })).parent ≡ process.parent
    chosen true = refl
    chosen false = refl

taken_fewer : (t s : ℕ) (process : Process) (u : ℕ) → is_some (map.get (taken_from t s process).threads u) ≡ true → is_some (map.get process.threads u) ≡ true
taken_fewer t s process u has = chosen (has_signal (signals_of t process) s) refl has
  where
    chosen : (b : Bool) → has_signal (signals_of t process) s ≡ b
        → is_some (map.get (cond b (with_signals process t (without_signal (signals_of t process) s)) (record process { pending = without_signal process.pending s })).threads u) ≡ true → is_some (map.get process.threads u) ≡ true
    chosen true signal there = sym (same_there process.threads t _ (there_if_signal (map.get process.threads t) s signal) u) ∙ there
    chosen false none there = there

count_in : (found : Option Process) (process : Process) → found ≡ Some process → thread_count_in found ≡ map.len process.threads
count_in found process is = ap thread_count_in is

pub alive_in : (found : Option Process) (process : Process) → found ≡ Some process → is_live_process found ≡ true → lives process.life ≡ true
alive_in found process is alive = subst (λ o. is_live_process o ≡ true) is alive

pub thread_in : (t : ℕ) (found : Option Process) (process : Process) → found ≡ Some process → has_thread_in t found ≡ true → is_some (map.get process.threads t) ≡ true
thread_in t found process is there = subst (λ o. has_thread_in t o ≡ true) is there

module _ (k : PlainKernel) (p : VPid) (is : IsKernel k) where
  kept : (change : Process → Process) → ((process : Process) → (change process).parent ≡ process.parent) → ((process : Process) → (change process).life ≡ process.life)
      → ((process : Process) → map.get k.processes p ≡ Some process → IsProcess k.next_id p (change process))
      → ((process : Process) → map.get k.processes p ≡ Some process → (t : ℕ) → is_some (map.get (change process).threads t) ≡ true → is_some (map.get process.threads t) ≡ true) → IsKernel (at_process k p change)
  kept change parent life new fewer = change_is_whole k p change k.next_id is (omega arith) is.numbers.last_id parent life
      (changed_are k.processes p change k.next_id k.next_id is.processes (λ q process one. one) new fewer)

  pub whole_take : (t s : ℕ) → IsKernel (after_take k p t s)
  unfolding after_take
  whole_take t s = kept (taken_from t s) (taken_parent t s) (taken_lives t s) (λ process there. taken_is k.next_id p process (is.processes.each p process there) t s) (λ process there. taken_fewer t s process)

  pub whole_raise_for_all : (s : ℕ) → is_live k p ≡ true → IsKernel (after_raise_for_all k p s)
  unfolding is_live after_raise_for_all
  whole_raise_for_all s alive = kept (raised_for_all s) (λ process. refl) (λ process. refl)
      (λ process there. raised_for_all_is k.next_id p process (is.processes.each p process there) s (alive_in (map.get k.processes p) process there alive)) (λ process there t now. now)

  pub whole_raise : (t s : ℕ) → has_thread k p t ≡ true → IsKernel (after_raise k p t s)
  unfolding after_raise
  whole_raise t s has = kept (raised_at t s) (λ process. refl) (λ process. refl)
      (λ process there. raised_is k.next_id p process (is.processes.each p process there) t s (thread_in t (map.get k.processes p) process there has))
      (λ process there u now. sym (same_there process.threads t _ (thread_in t (map.get k.processes p) process there has) u) ∙ now)

  pub whole_fewer : (t : ℕ) → 1 < thread_count k p → IsKernel (at_process k p (without_thread_entry t))
  whole_fewer t some = kept (without_thread_entry t) (λ process. refl) (λ process. refl)
      (λ process there.
      let count : thread_count k p ≡ map.len process.threads = count_in (map.get k.processes p) process there in
      fewer_is k.next_id p process (is.processes.each p process there) t (omega arith))
      (λ process known u there. removed u (map.get (map.remove process.threads t) u) process refl there)
    where
      removed : (u : ℕ) (found : Option ℕ) (process : Process) → map.get (map.remove process.threads t) u ≡ found → is_some found ≡ true → is_some (map.get process.threads u) ≡ true
      removed u None process none there = true_false (sym there)
      removed u (Some signals) process found there = ap is_some (still_there nat_cmp_total map.nat_cmp-IsAntisymmetric process.threads t u signals found)

  pub whole_next_thread : is_live k p ≡ true → thread_count k p < 64 → k.next_id + 1 < 2 ^ 31 → IsKernel (with_next_thread k p)
  unfolding with_next_thread is_live
  whole_next_thread alive few last = change_is_whole k p (with_thread_entry k.next_id) (k.next_id + 1) is (omega arith) last (λ process. refl) (λ process. refl)
      (next_thread_are k.processes p k.next_id is.processes (λ q process one. later k.next_id q process one)
      (λ process there.
      let count : thread_count k p ≡ map.len process.threads = count_in (map.get k.processes p) process there in
      next_is k.next_id p process (is.processes.each p process there) is.numbers.first_id (alive_in (map.get k.processes p) process there alive) (omega arith)))

-- a change of directions alone
pub whole_directions : (k : PlainKernel) (directions : Directions) → IsKernel k → AreChannels k.channels directions → IsKernel (record k { directions = directions })
whole_directions k directions is are = record {
  numbers = is.numbers;
  processes = is.processes;
  makers = is.makers;
  parents = is.parents;
  files = is.files;
  open_files = is.open_files;
  descriptors = is.descriptors;
  descriptions = is.descriptions;
  holders = is.holders;
  made = is.made;
  channels = are;
  streams = is.streams;
  listeners = is.listeners;
  addresses = is.addresses;
  hosts = is.hosts;
  inboxes = is.inboxes;
  counters = is.counters;
}

-- more bytes of a direction have arrived
pub whole_arrival : (k : PlainKernel) (at : Dir) (direction : Direction) (n : ℕ) → IsKernel k → map.get k.directions at ≡ Some direction → direction.arrived + n ≤ length direction.left
    → IsKernel (record k { directions = map.insert k.directions at (record { left = direction.left; arrived = direction.arrived + n; ended = direction.ended; unread = direction.unread }) })
whole_arrival k at direction n is there fits =
    let new : Direction = record { left = direction.left; arrived = direction.arrived + n; ended = direction.ended; unread = direction.unread } in
    let old = is.channels.each at direction there in
    let known : (o : Direction) → map.get k.directions at ≡ Some o → o ≡ direction = λ o found. cc in
    whole_directions k (map.insert k.directions at new) is
    (direction_keeps k.channels k.directions at new is.channels (ap is_some there)
    (record { arrived = fits; size = old.size; bytes = old.bytes; unread = old.unread })
    (λ channel joined pipe one. is.channels.pipes at.conn channel direction joined pipe (subst (λ side. map.get k.directions (record { conn = at.conn; side = side }) ≡ Some direction) one there))
    (λ o found holds. ap (λ (d : Direction). d.ended) (sym (known o found)) ∙ holds)
    (λ o found holds. ap (λ (d : Direction). d.unread) (sym (known o found)) ∙ holds))
