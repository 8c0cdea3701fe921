-- The kernel part stays whole over the end of a process or a thread.
--     whole_without_owner, whole_without_children, whole_zombie, whole_without_process      the changes of which an end is made
--     whole_ended, whole_thread_ended
use Rattle.std.proofs.Common.{◌≡◌, ◌≢◌, ℕ, ◌^◌, ◌<◌, ◌≤◌, Bool, true, false, cond, refl, sym, ap, subst, ◌∙◌, inl, arith, ⊎_elim}
use Rattle.std.specs.Prelude.{◌==◌, nat_le, Option, Some, None, option_map}
use Rattle.std.specs.FinMap as map
use Rattle.std.proofs.lemmas.Bool.Decides.{nat_tests}
use Rattle.plain_tables.specs.OfViews.Limits.{DESCRIPTOR_LIMIT}
use Rattle.plain_tables.proofs.OfViews.MapLaws.{true_false}
use Rattle.plain_tables.proofs.OfViews.MapValues.{get-map_values}
use Rattle.plain_tables.specs.OfSysAbi.declared.identity.VPid.{VPid}
use Rattle.plain_tables.specs.OfSysAbi.declared.identity.DescId.{DescId}
use Rattle.plain_tables.specs.OfSysAbi.declared.signals.TheConstants.{SIGCHLD}
use Rattle.plain_tables.specs.OfSysAbi.declared.life.Life.{Life}
use Rattle.plain_tables.specs.OfSysAbi.declared.life.Life.TheVariants.{Live, Zombie}
use Rattle.plain_tables.specs.OfSysAbi.Lives.{lives}
use Rattle.plain_tables.specs.OfPlainProcess.Valid.{Each}
use Rattle.plain_machine.specs.declared.kernel.PlainKernel.{PlainKernel}
use Rattle.plain_tables.specs.declared.process.Process.{Process}
use Rattle.plain_tables.specs.declared.description.Description.{Description}
use Rattle.plain_tables.specs.Tables.{FIRST_PID, Processes, Makers, Descriptors, Descriptions, pid, slot, is_live_process, lives_in, changed_at, raised_for_all, without_thread_entry}
use Rattle.plain_tables.specs.Ends.{is_child_of, is_zombie_child, orphan, orphaned, makers_of, disown, disowned, zombie}
use Rattle.plain_tables.specs.Valid.Processes.{AreProcesses, AreMakers, AreParents, HasParent, IsParent}
use Rattle.plain_tables.specs.Valid.Descriptions.{AreHolders, IsOwner}
use Rattle.plain_machine.specs.Kernel.{is_live, at_process, without_process, after_raise_for_all, thread_count}
use Rattle.plain_machine.specs.Ends.{closed_below, without_owner, without_children, with_zombie, left_to, left_by, without_holds, after_end, thread_ended}
use Rattle.plain_machine.specs.Kernels.{IsKernel}
use Rattle.plain_tables.proofs.Changes.{each_changed}
use Rattle.plain_tables.proofs.AlikeProcesses.{AreAlike, Was, changed_alike}
use Rattle.plain_tables.proofs.AlikeDescriptions.{Like, AreLike, open_files_like, described_like, descriptions_like, made_like, streams_like, listeners_like, addresses_like, hosts_like, inboxes_like, counters_like}
use Rattle.plain_tables.proofs.LeftProcesses.{Leaves, descriptors_left, holders_left, made_left, hosts_left}
use Rattle.plain_tables.proofs.Orphans.{orphan_was, orphan_leaves, orphans_are, orphan_makers, orphan_parents, no_child}
use Rattle.plain_tables.proofs.EndedProcesses.{IsChildless, zombie_are, zombie_makers, zombie_parents, zombie_leaves, without_are, without_makers, without_parents, without_leaves, waited_for}
use Rattle.plain_machine.proofs.WholeChanges.{whole_raise_for_all, whole_fewer}
use Rattle.plain_machine.proofs.WholeClosing.{Closes, whole_closed_below, closed_below_closes, none_below}

-- nobody's: what is like a description but for its owner
disown_object : (p : VPid) (x : Description) → (disown p x).object ≡ x.object
disown_object p x = chosen (x.owner == p.0)
  where
    chosen : (b : Bool) → (cond b (record x { owner = 0 }) x).object ≡ x.object
    chosen true = refl
    chosen false = refl

disown_flags : (p : VPid) (x : Description) → (disown p x).flags ≡ x.flags
disown_flags p x = chosen (x.owner == p.0)
  where
    chosen : (b : Bool) → (cond b (record x { owner = 0 }) x).flags ≡ x.flags
    chosen true = refl
    chosen false = refl

-- a process without an own description, or a host that it shares
record Disowned (p : VPid) (descriptions : Descriptions) (d : DescId) (x : Description) : Type 0 where
  old : Description
  there : map.get descriptions d ≡ Some old
  is_disowned : x ≡ disown p old

module _ (p : VPid) (descriptions : Descriptions) where
  disowned_was : (d : DescId) (x : Description) → map.get (disowned p descriptions) d ≡ Some x → Disowned p descriptions d x
  disowned_was d x found = by_found (map.get descriptions d) refl (sym (get-map_values (disown p) descriptions d) ∙ found)
    where
      by_found : (was : Option Description) → map.get descriptions d ≡ was → option_map (disown p) was ≡ Some x → Disowned p descriptions d x
      by_found None none is = let differ : None ≡ Some x = is in cc
      by_found (Some old) there is = record { old = old; there = there; is_disowned = cc }

  disowned_like : AreLike descriptions (disowned p descriptions)
  disowned_like = record {
    back = λ d x found.
        let was = disowned_was d x found in
        record {
          y = was.old;
          there = was.there;
          object = sym (disown_object p was.old) ∙ ap (λ (z : Description). z.object) (sym was.is_disowned);
          flags = sym (disown_flags p was.old) ∙ ap (λ (z : Description). z.flags) (sym was.is_disowned);
        };
    forth = λ d x found. record {
      y = disown p x;
      there = get-map_values (disown p) descriptions d ∙ ap (option_map (disown p)) found;
      object = disown_object p x;
      flags = disown_flags p x;
    };
  }

  disowned_holders : (processes : Processes) (makers : Makers) (descriptors : Descriptors) → AreHolders processes makers descriptors descriptions → AreHolders processes makers descriptors (disowned p descriptions)
  disowned_holders processes makers descriptors is = record {
    host = is.host;
    owner = λ a y description found there.
        let was = disowned_was y.desc description there in
        subst (λ (z : Description). IsOwner processes makers a.pid z.owner) (sym was.is_disowned) (chosen a.pid was.old (is.owner a y was.old found was.there) (was.old.owner == p.0));
  }
    where
      chosen : (holder : VPid) (x : Description) → IsOwner processes makers holder x.owner → (b : Bool) → IsOwner processes makers holder (cond b (record x { owner = 0 }) x).owner
      chosen holder x is true = inl refl
      chosen holder x is false = is

  pub not_owner : FIRST_PID ≤ p.0 → (d : DescId) (x : Description) → map.get (disowned p descriptions) d ≡ Some x → x.owner ≢ p.0
  not_owner first d x found =
      let was = disowned_was d x found in
      subst (λ (z : Description). z.owner ≢ p.0) (sym was.is_disowned) (chosen was.old (was.old.owner == p.0) refl)
    where
      chosen : (x : Description) (b : Bool) → (x.owner == p.0) ≡ b → (cond b (record x { owner = 0 }) x).owner ≢ p.0
      chosen x true owns same = let nobody : 0 ≡ p.0 = same in omega arith
      chosen x false other same = grind (arith, nat_tests, other, same)

pub whole_without_owner : (k : PlainKernel) (p : VPid) → IsKernel k → IsKernel (without_owner k p)
whole_without_owner k p is =
    let like = disowned_like p k.descriptions in
    let after = disowned p k.descriptions in
    record {
      numbers = is.numbers;
      processes = is.processes;
      makers = is.makers;
      parents = is.parents;
      files = is.files;
      open_files = open_files_like k.descriptions after like k.names k.files is.open_files;
      descriptors = described_like k.descriptions after like k.processes k.descriptors is.descriptors;
      descriptions = descriptions_like k.descriptions after like k.descriptors is.descriptions;
      holders = disowned_holders p k.descriptions k.processes k.makers k.descriptors is.holders;
      made = made_like k.descriptions after like k.next_id k.processes k.makers k.channels is.made;
      channels = is.channels;
      streams = streams_like k.descriptions after like k.listeners k.channels is.streams;
      listeners = listeners_like k.descriptions after like k.listeners k.channels is.listeners;
      addresses = addresses_like k.descriptions after like is.addresses;
      hosts = hosts_like k.descriptions after like k.makers k.descriptors k.listeners k.channels is.hosts;
      inboxes = inboxes_like k.descriptions after like k.inboxes is.inboxes;
      counters = counters_like k.descriptions after like is.counters;
    }

-- other processes and makers, under which those that hold and own go on living
module _ (k : PlainKernel) (is : IsKernel k) (processes : Processes) (makers : Makers) (still : VPid → Type 0) (leaves : Leaves k.next_id k.processes processes k.makers makers still)
    (holders : Each k.descriptors (λ at descriptor. still at.pid)) (owners : Each k.descriptions (λ d description. still (pid description.owner))) where
  whole_left : AreProcesses k.next_id processes → AreMakers processes makers → AreParents processes makers → IsKernel (record k { processes = processes; makers = makers })
  whole_left are made_by parents = record {
    numbers = is.numbers;
    processes = are;
    makers = made_by;
    parents = parents;
    files = is.files;
    open_files = is.open_files;
    descriptors = descriptors_left k.next_id k.processes processes k.makers makers still leaves k.descriptors k.descriptions is.descriptors holders;
    descriptions = is.descriptions;
    holders = holders_left k.next_id k.processes processes k.makers makers still leaves k.descriptors k.descriptions is.descriptors holders owners is.holders;
    made = made_left k.next_id k.processes processes k.makers makers still leaves k.descriptors k.descriptions is.descriptors holders k.next_id (omega arith) k.channels is.made;
    channels = is.channels;
    streams = is.streams;
    listeners = is.listeners;
    addresses = is.addresses;
    hosts = hosts_left k.next_id k.processes processes k.makers makers still leaves k.descriptors k.descriptions is.descriptors holders k.listeners k.channels is.hosts;
    inboxes = is.inboxes;
    counters = is.counters;
  }

pub whole_without_children : (k : PlainKernel) (p : VPid) → IsKernel k → IsKernel (without_children k p)
whole_without_children k p is =
    whole_left k is (orphaned p k.processes) (makers_of (orphaned p k.processes) k.makers) (λ q. Unit {0}) (orphan_leaves p k.processes k.makers k.next_id) (λ at descriptor found. tt) (λ d description found. tt)
    (orphans_are p k.processes k.next_id is.processes) (orphan_makers p k.processes k.makers is.makers) (orphan_parents p k.processes k.makers is.parents)

-- a process that holds and owns nothing and has no child
module _ (k : PlainKernel) (p : VPid) (is : IsKernel k) (childless : IsChildless k.processes p) (holders : Each k.descriptors (λ at descriptor. at.pid ≢ p)) (owners : Each k.descriptions (λ d description. description.owner ≢ p.0)) where
  no_owner : Each k.descriptions (λ d description. pid description.owner ≢ p)
  no_owner d description found same = owners d description found (ap (λ (q : VPid). q.0) same)

  pub whole_without_process : IsKernel (without_process p k)
  whole_without_process = whole_left k is (map.remove k.processes p) (map.remove k.makers p) (λ q. q ≢ p) (without_leaves k.processes k.makers p childless k.next_id) holders no_owner
      (without_are k.processes k.makers p childless k.next_id is.processes) (without_makers k.processes k.makers p childless is.makers) (without_parents k.processes k.makers p childless is.parents)

  pub whole_zombie : (status : ℕ) → status < 2 ^ 32 → ((process : Process) → map.get k.processes p ≡ Some process → IsParent k.processes k.makers p process.parent) → IsKernel (with_zombie k p status)
  whole_zombie status word waits = whole_left k is (changed_at k.processes p (zombie status)) k.makers (λ q. q ≢ p) (zombie_leaves k.processes k.makers p childless status k.next_id) holders no_owner
      (zombie_are k.processes k.makers p childless status k.next_id is.processes) (zombie_makers k.processes k.makers p childless status is.makers)
      (zombie_parents k.processes k.makers p childless status word waits is.parents)

alive_in : (found : Option Process) (process : Process) → found ≡ Some process → is_live_process found ≡ true → lives process.life ≡ true
alive_in found process is alive = subst (λ o. is_live_process o ≡ true) is alive

-- the process ends
module _ (k : PlainKernel) (p : VPid) (status : ℕ) (is : IsKernel k) (alive : is_live k p ≡ true) (word : status < 2 ^ 32) where
  closed : PlainKernel
  closed = closed_below k p DESCRIPTOR_LIMIT

  closes : Closes k closed
  unfolding closed
  closes = closed_below_closes k p DESCRIPTOR_LIMIT

  whole_closed : IsKernel closed
  unfolding closed
  whole_closed = whole_closed_below k p DESCRIPTOR_LIMIT is

  no_holder : Each closed.descriptors (λ at descriptor. at.pid ≢ p)
  unfolding closed
  no_holder at descriptor found same =
      none_below k p DESCRIPTOR_LIMIT at.fd descriptor (whole_closed.descriptors.number at descriptor found)
      (subst (λ q. map.get (closed_below k p DESCRIPTOR_LIMIT).descriptors (slot q at.fd) ≡ Some descriptor) same found)

  left : PlainKernel
  left = without_children (without_owner closed p) p

  whole_left_over : IsKernel left
  unfolding left
  whole_left_over = whole_without_children (without_owner closed p) p (whole_without_owner closed p whole_closed)

  first : FIRST_PID ≤ p.0
  unfolding is_live
  first = by_found (map.get k.processes p) refl alive
    where
      by_found : (found : Option Process) → map.get k.processes p ≡ found → is_live_process found ≡ true → FIRST_PID ≤ p.0
      by_found None none lives = true_false (sym lives)
      by_found (Some process) found lives = (is.processes.each p process found).number.0

  left_childless : IsChildless left.processes p
  unfolding left
  left_childless q process found = no_child p closed.processes first q process found

  left_holders : Each left.descriptors (λ at descriptor. at.pid ≢ p)
  unfolding left
  left_holders = no_holder

  left_owners : Each left.descriptions (λ d description. description.owner ≢ p.0)
  unfolding left
  left_owners d description found = not_owner p closed.descriptions first d description found

  -- what is left of the process is what it was
  module _ (process : Process) (known : map.get k.processes p ≡ Some process) where
    not_own_child : is_child_of p process ≡ false
    unfolding is_live
    not_own_child = chosen (is_child_of p process) refl
      where
        own : (life : Life) → lives life ≡ true → process.parent ≡ p.0 → HasParent k.processes k.makers p process.parent life → ⊥
        own Live lives same has = ⊎_elim (λ nobody. let low = first in omega arith) (λ parent. let low = parent.below in omega arith) has
        own (Zombie s) lives same has = true_false (sym lives)

        chosen : (b : Bool) → is_child_of p process ≡ b → b ≡ false
        chosen true child =
            let same : process.parent ≡ p.0 = grind (arith, nat_tests, child) in
            absurd (own process.life (alive_in (map.get k.processes p) process known alive) same (is.parents.each p process known))
        chosen false other = refl

    left_process : (now : Process) → map.get left.processes p ≡ Some now → now ≡ process
    unfolding left
    left_process now found =
        let stays = orphan_was p closed.processes p now found in
        let at_first : map.get k.processes p ≡ Some stays.old = ap (λ m. map.get m p) (sym closes.processes) ∙ stays.there in
        let same : stays.old ≡ process = cc in
        stays.is_orphan ∙ ap (orphan p) same ∙ ap (λ b. cond b (record process { parent = 1 }) process) not_own_child

    -- its parent hears of it, and waits
    module _ (hears : is_live left (pid process.parent) ≡ true) where
      told : PlainKernel
      told = after_raise_for_all left (pid process.parent) SIGCHLD

      whole_told : IsKernel told
      unfolding told after_raise_for_all
      whole_told = whole_raise_for_all left (pid process.parent) whole_left_over SIGCHLD hears

      alike : AreAlike left.processes told.processes
      unfolding told after_raise_for_all
      alike = changed_alike left.processes (pid process.parent) (raised_for_all SIGCHLD) (λ one. refl) (λ one. refl)

      told_childless : IsChildless told.processes p
      told_childless q one found same =
          let was = alike.was q one found in
          left_childless q was.old was.there (sym was.parent ∙ same)

      told_holders : Each told.descriptors (λ at descriptor. at.pid ≢ p)
      unfolding told after_raise_for_all
      told_holders = left_holders

      told_owners : Each told.descriptions (λ d description. description.owner ≢ p.0)
      unfolding told after_raise_for_all
      told_owners = left_owners

      waits : (one : Process) → map.get told.processes p ≡ Some one → IsParent told.processes told.makers p one.parent
      unfolding is_live
      waits one found =
          let was = alike.was p one found in
          let same : was.old ≡ process = left_process was.old was.there in
          let parent : one.parent ≡ process.parent = was.parent ∙ ap (λ (x : Process). x.parent) same in
          waited_for told.next_id told.processes told.makers whole_told.numbers.first_id whole_told.processes whole_told.parents p one found
          (ap lives (was.life ∙ ap (λ (x : Process). x.life) same) ∙ alive_in (map.get k.processes p) process known alive)
          (ap (λ n. lives_in told.processes (pid n)) parent ∙ alike.lives (pid process.parent) ∙ hears)

      whole_waited : IsKernel (with_zombie told p status)
      whole_waited = whole_zombie told p whole_told told_childless told_holders told_owners status word waits

    whole_left_to : IsKernel (left_to left p status (pid process.parent))
    unfolding told
    whole_left_to = chosen (is_live left (pid process.parent)) refl
      where
        chosen : (b : Bool) → is_live left (pid process.parent) ≡ b → IsKernel (cond b (with_zombie (after_raise_for_all left (pid process.parent) SIGCHLD) p status) (without_process p left))
        chosen true hears = whole_waited hears
        chosen false none = whole_without_process left p whole_left_over left_childless left_holders left_owners

  pub whole_ended : IsKernel (after_end k p status)
  unfolding after_end left closed
  whole_ended = by_found (map.get k.processes p) refl
    where
      by_found : (found : Option Process) → map.get k.processes p ≡ found → IsKernel (left_by (without_holds k p) p status found)
      by_found None none = whole_left_over
      by_found (Some process) known = whole_left_to process known

pub whole_thread_ended : (k : PlainKernel) (p : VPid) (t status : ℕ) → IsKernel k → is_live k p ≡ true → status < 2 ^ 32 → IsKernel (thread_ended k p t status)
unfolding thread_ended
whole_thread_ended k p t status is alive word = chosen (nat_le (thread_count k p) 1) refl
  where
    chosen : (b : Bool) → nat_le (thread_count k p) 1 ≡ b → IsKernel (cond b (after_end k p status) (at_process k p (without_thread_entry t)))
    chosen true last = whole_ended k p status is alive word
    chosen false others =
        let some : 1 < thread_count k p = grind (arith, nat_tests, others) in
        whole_fewer k p is t some
