-- A process leaves that has one thread and no zombies: it is a zombie then, or it is gone.
--     IsLeft                    the others are as they were
--     stays_zombie, is_nobody   the system then, by what its status tells
use Rattle.std.proofs.Common.{◌≡◌, ◌≢◌, ◌⊎◌, ℕ, ◌≤◌, Bool, true, false, cond, Option, Some, None, inl, inr, refl, sym, ap, ◌∙◌, subst, arith}
use Rattle.std.specs.Prelude.{◌==◌, IsSome, is_some, not, option_map, option_and_then}
use Rattle.std.specs.Cmp.{nat_cmp_total}
use Rattle.std.specs.Ordering.{nat_cmp}
use Rattle.std.specs.FinMap as map
use Rattle.std.specs.FinMap.{nat_cmp-IsAntisymmetric}
use Rattle.std.proofs.lemmas.Bool.{eqb-true, eq-eqb}
use Rattle.std.proofs.lemmas.Option.{none-some}
use Rattle.views.specs.Maps.{option_filter}
use Rattle.views.specs.Seen.{Agree}
use Rattle.views.proofs.MapLaws.{true_false, same_or_other, get_remove_same, get_remove_other, retain_all}
use Rattle.views.proofs.MapValues.{get-map_values}
use Rattle.sys_abi.specs.declared.identity.DescId.{DescId}
use Rattle.sys_abi.specs.declared.identity.RealPid.{RealPid}
use Rattle.sys_abi.specs.declared.identity.VPid.{VPid}
use Rattle.sys_abi.specs.declared.life.Life.TheVariants.{Zombie}
use Rattle.sys_abi.specs.declared.signals.TheConstants.{SIGCHLD}
use Rattle.sys_abi.proofs.OrderLaws.{vpid_total, vpid_exact}
use Rattle.proc_book.specs.declared.process.Process as real_process
use Rattle.proc_book.specs.Procs.{status_by, status_of}
use Rattle.virt_ids.specs.Pairs.{Pairs}
use Rattle.plain_tables.specs.declared.description.Description.{Description}
use Rattle.plain_tables.specs.declared.process.Process.{Process}
use Rattle.plain_tables.specs.Ends.{is_zombie_child, orphan, orphaned, makers_of, disown, disowned, zombie}
use Rattle.plain_tables.specs.Tables.{FIRST_PID, Makers, Processes, pid, changed_at, has_thread_in, raised_for_all, thread_count_in}
use Rattle.plain_tables.proofs.Changes.{changed_other, changed_test, changed_from}
use Rattle.plain_tables.proofs.Orphans.{look_up, orphan_threads}
use Rattle.plain_machine.specs.declared.kernel.PlainKernel.{PlainKernel}
use Rattle.plain_machine.specs.Ends.{without_owner, without_children, with_zombie, left_by}
use Rattle.plain_machine.specs.Kernel.{is_live, thread_count, without_process, after_raise_for_all}
use Rattle.plain_machine.specs.Kernels.{IsKernel}
use Rattle.host_tables.specs.declared.kernel.Kernel.{Kernel}
use Rattle.host_tables.specs.declared.system.System.{System}
use Rattle.host_tables.specs.Processes.{SameProcess}
use Rattle.host_tables.specs.Stands.{Stands}
use Rattle.host_tables.specs.Systems.{given_of, has_own_name, is_named_in, IsNumber}
use Rattle.host_tables.proofs.LookUps.{some_value}
use Rattle.wrap_names.specs.OfHostProcesses.Leaves.{after_leave}
use Rattle.wrap_names.specs.Passing.{Passed}
use Rattle.wrap_names.specs.Wrapping.{IsWrapped}
use Rattle.wrap_names.proofs.Reaping.{IsNobody, nobody}
use Rattle.wrap_ends.specs.Ending.{HasNoZombie, without_number, without_thread}
use Rattle.wrap_ends.proofs.Keys.{some_len, fewer_len}
use Rattle.wrap_ends.proofs.Nearly.{KeepsBut, IsNearly, nearly, without_pair, dropped, all_dropped}
use Rattle.wrap_ends.proofs.ThreadEnds.{own}

-- a map of one entry
one_key : (m : map.FinMap nat_cmp ℕ) (a b : ℕ) → map.len m ≤ 1 → is_some (map.get m a) ≡ true
    → is_some (map.get m b) ≡ true → b ≡ a
one_key m a b few has_a has_b = elim (same_or_other nat_cmp_total nat_cmp-IsAntisymmetric b a) [
  | inl same ↦ same
  | inr differ ↦
      let x = some_value (map.get m a) has_a in
      let y = some_value (map.get m b) has_b in
      let less = fewer_len nat_cmp_total m a x.0 x.1 in
      absurd (some_len nat_cmp_total (map.remove m a) b y.0
      (get_remove_other nat_cmp_total nat_cmp-IsAntisymmetric m a b differ ∙ y.1) (omega (arith, less, few)))
]

module _ (s : System) (next_id : ℕ) (k : PlainKernel) (w : IsWrapped s next_id k) (p : VPid) (who : RealPid)
    (paired : map.get s.ids.pids p.0 ≡ Some who) (alive : is_live k p ≡ true) (few : thread_count k p ≤ 1)
    (none : HasNoZombie k p) (status : ℕ) (t : ℕ) (has : has_thread_in t (map.get k.processes p) ≡ true) where
  abbrev x : Process
  x = (own s next_id k w p who paired alive).0

  there : map.get k.processes p ≡ Some x
  there = (own s next_id k w p who paired alive).1

  is_kernel : IsKernel k
  is_kernel = w.stands.kernel

  abbrev old : Processes
  old = orphaned p k.processes

  abbrev childless : PlainKernel
  childless = without_children (without_owner k p) p

  abbrev parent : VPid
  parent = pid x.parent

  abbrev as_zombie : PlainKernel
  as_zombie = with_zombie (after_raise_for_all childless parent SIGCHLD) p status

  abbrev as_gone : PlainKernel
  as_gone = without_process p childless

  after_is : (b : Bool) → is_live childless parent ≡ b → after_leave k p status ≡ cond b as_zombie as_gone
  after_is b e = ap (left_by childless p status) there ∙ ap (λ c. cond c as_zombie as_gone) e

  -- the others
  orphan_by : (u : VPid) (o : Option Process) → map.get k.processes u ≡ o
      → option_map (orphan p) (option_filter (λ y. not (is_zombie_child p y)) o) ≡ option_map (orphan p) o
  orphan_by u None e = refl
  orphan_by u (Some y) e = ap (λ b. option_map (orphan p) (cond (not b) (Some y) None)) (none.none u y e)

  old_is : (u : VPid) → map.get old u ≡ option_map (orphan p) (map.get k.processes u)
  old_is u = look_up p k.processes u ∙ orphan_by u (map.get k.processes u) refl

  some_by : (o : Option Process) → is_some (option_map (orphan p) o) ≡ is_some o
  some_by None = refl
  some_by (Some y) = refl

  thread_by : (v : ℕ) (o : Option Process) → has_thread_in v (option_map (orphan p) o) ≡ has_thread_in v o
  thread_by v None = refl
  thread_by v (Some y) = ap (λ threads. is_some (map.get threads v)) (orphan_threads p y)

  old_there : (u : VPid) → is_some (map.get old u) ≡ is_some (map.get k.processes u)
  old_there u = ap is_some (old_is u) ∙ some_by (map.get k.processes u)

  old_threads : (v : ℕ) (u : VPid) → has_thread_in v (map.get old u) ≡ has_thread_in v (map.get k.processes u)
  old_threads v u = ap (has_thread_in v) (old_is u) ∙ thread_by v (map.get k.processes u)

  makers_still : makers_of old k.makers ≡ k.makers
  makers_still =
      retain_all vpid_total vpid_exact k.makers (λ u. is_some (map.get old u)) (λ u m is.
      old_there u ∙ sym (is_kernel.makers.same u) ∙ ap is_some is)

  named_by : (o : Option Description) → is_named_in (option_map (disown p) o) ≡ is_named_in o
  named_by None = refl
  named_by (Some d) = by_owner (d.owner == p.0)
    where
      by_owner : (b : Bool) → has_own_name (cond b (record d { owner = 0 }) d).object ≡ has_own_name d.object
      by_owner true = refl
      by_owner false = refl

  named_still : (id : DescId) → is_named_in (map.get k.descriptions id) ≡ true
      → is_named_in (map.get (disowned p k.descriptions) id) ≡ true
  named_still id is =
      ap is_named_in (get-map_values (disown p) k.descriptions id) ∙ named_by (map.get k.descriptions id) ∙ is

  its_last : (v : ℕ) → has_thread_in v (map.get k.processes p) ≡ true → v ≡ t
  its_last v is =
      one_key x.threads t v (let e = ap thread_count_in there in omega (arith, few, e))
      (sym (ap (has_thread_in t) there) ∙ has) (sym (ap (has_thread_in v) there) ∙ is)

  first : FIRST_PID ≤ p.0
  first = (is_kernel.processes.each p x there).number.0

  first_thread : FIRST_PID ≤ t
  first_thread =
      let signals = some_value (map.get x.threads t) (sym (ap (has_thread_in t) there) ∙ has) in
      ((is_kernel.processes.each p x there).threads t signals.0 signals.1).0.0

  -- a kernel part in which the others are as they were
  record IsLeft (k' : PlainKernel) : Type 0 where
    there_still : (u : VPid) → u ≢ p → is_some (map.get k'.processes u) ≡ is_some (map.get k.processes u)
    threads_still : (v : ℕ) (u : VPid) → u ≢ p
        → has_thread_in v (map.get k'.processes u) ≡ has_thread_in v (map.get k.processes u)
    no_threads : (v : ℕ) → has_thread_in v (map.get k'.processes p) ≡ false

  module _ (k' : PlainKernel) (left : IsLeft k') where
    -- numbers
    numbers_left : (v : ℕ) → IsNumber k v → IsNumber k' v ⊎ ((v ≡ t) ⊎ (v ≡ p.0))
    numbers_left v is = elim is [
      | inl process ↦ elim (same_or_other vpid_total vpid_exact (pid v) p) [
        | inl same ↦ inr (inr (ap (λ (u : VPid). u.0) same))
        | inr differ ↦ inl (inl (left.there_still (pid v) differ ∙ process))
      ]
      | inr thread ↦ elim (same_or_other vpid_total vpid_exact thread.0 p) [
        | inl same ↦ inr (inl
            (its_last v (ap (λ u. has_thread_in v (map.get k.processes u)) (sym same) ∙ thread.1)))
        | inr differ ↦ inl (inr (thread.0, left.threads_still v thread.0 differ ∙ thread.1))
      ]
    ]

    none_by : {X : Type 0} (o : Option X) → (IsSome o → ⊥) → o ≡ None
    none_by None h = refl
    none_by (Some y) h = absurd (h refl)

    no_thread : (v : ℕ) → ((u : VPid) → u ≢ p → has_thread_in v (map.get k.processes u) ≡ true → ⊥)
        → (u : VPid) (y : Process) → map.get k'.processes u ≡ Some y → map.get y.threads v ≡ None
    no_thread v nowhere u y is =
        none_by (map.get y.threads v) (λ some.
        let has_it = ap (has_thread_in v) is ∙ some in
        elim (same_or_other vpid_total vpid_exact u p) [
          | inl same ↦
              true_false
              (sym has_it ∙ ap (λ q. has_thread_in v (map.get k'.processes q)) same ∙ left.no_threads v)
          | inr differ ↦ nowhere u differ (sym (left.threads_still v u differ) ∙ has_it)
        ])

    thread_nobody : IsKernel k' → t ≢ p.0 → IsNobody k' t
    thread_nobody whole differs =
        nobody k' whole t first_thread
        (none_by (map.get k'.processes (pid t)) (λ some.
        let apart : pid t ≢ p = λ same. differs (ap (λ (u : VPid). u.0) same) in
        apart (sym (is_kernel.processes.own_number p (pid t) has
        (sym (left.there_still (pid t) apart) ∙ some)))))
        (no_thread t (λ u differ is. differ (is_kernel.processes.threads_apart u p t is has)))

    process_nobody : IsKernel k' → map.get k'.processes p ≡ None → IsNobody k' p.0
    process_nobody whole gone =
        nobody k' whole p.0 first gone
        (no_thread p.0 (λ u differ is. differ (is_kernel.processes.own_number u p is (ap is_some there))))

  -- a zombie
  raised_there : (u : VPid) → is_some (map.get (changed_at old parent (raised_for_all SIGCHLD)) u)
      ≡ is_some (map.get k.processes u)
  raised_there u =
      changed_test vpid_total vpid_exact old parent (raised_for_all SIGCHLD) is_some (λ y is. refl) u
      ∙ old_there u

  zombie_there : (u : VPid) → is_some (map.get as_zombie.processes u) ≡ is_some (map.get k.processes u)
  unfolding after_raise_for_all
  zombie_there u =
      changed_test vpid_total vpid_exact (changed_at old parent (raised_for_all SIGCHLD)) p
      (zombie status) is_some
      (λ y is. refl) u ∙ raised_there u

  zombie_threads_by : (o : Option Process) → map.get as_zombie.processes p ≡ o → (v : ℕ) → has_thread_in v o
      ≡ false
  unfolding after_raise_for_all
  zombie_threads_by None e v = refl
  zombie_threads_by (Some y) e v =
      let from = changed_from vpid_total vpid_exact (changed_at old parent (raised_for_all SIGCHLD)) p
      (zombie status) y e in
      ap (λ (z : Process). is_some (map.get z.threads v)) from.2 ∙ ap is_some
      (map.get-empty {X = ℕ} nat_cmp v)

  zombie_left : IsLeft as_zombie
  unfolding after_raise_for_all
  zombie_left = record {
    there_still = λ u differ. zombie_there u;
    threads_still = λ v u differ.
        ap (has_thread_in v) (changed_other vpid_total vpid_exact
        (changed_at old parent (raised_for_all SIGCHLD)) p (zombie status) u differ)
        ∙ changed_test vpid_total vpid_exact old parent (raised_for_all SIGCHLD) (has_thread_in v)
        (λ y is. refl) u
        ∙ old_threads v u;
    no_threads = λ v. zombie_threads_by (map.get as_zombie.processes p) refl v;
  }

  -- gone
  gone_left : IsLeft as_gone
  gone_left = record {
    there_still = λ u differ. ap is_some (get_remove_other vpid_total vpid_exact old p u differ)
        ∙ old_there u;
    threads_still = λ v u differ.
        ap (has_thread_in v) (get_remove_other vpid_total vpid_exact old p u differ) ∙ old_threads v u;
    no_threads = λ v. ap (has_thread_in v) (get_remove_same vpid_total vpid_exact old p);
  }

  -- the system then
  module _ (new : Kernel) where
    abbrev after : System
    after = record s { kernel = new }

    pass : (k' : PlainKernel) → Stands (given_of s) None new k' → Passed s after k'
    pass k' stands = record { ids = refl; conns = refl; names = refl; stands = stands }

    -- it is a zombie
    module _ (whole : IsKernel as_zombie) (stands : Stands (given_of s) None new as_zombie) where
      own_number : IsNumber as_zombie p.0
      own_number = inl (zombie_there p ∙ ap is_some there)

      zombie_number : (v : ℕ) → IsNumber k v → IsNumber as_zombie v ⊎ (v ≡ t)
      zombie_number v is = elim (numbers_left as_zombie zombie_left v is) [
        | inl still ↦ inl still
        | inr extra ↦ elim extra [
          | inl it ↦ inr it
          | inr it ↦ inl (subst (IsNumber as_zombie) (sym it) own_number)
        ]
      ]

      makers_now : as_zombie.makers ≡ s.conns.makers
      unfolding after_raise_for_all
      makers_now = makers_still ∙ w.stands.exact.makers

      zombie_keeps : (Extra : ℕ → Type 0) → ((v : ℕ) → IsNumber k v → IsNumber as_zombie v ⊎ Extra v)
          → KeepsBut k as_zombie Extra
      unfolding after_raise_for_all
      zombie_keeps Extra numbers = record {
        numbers = numbers;
        places = λ a h. h;
        names = named_still;
        channels = refl;
        next = refl;
      }

      pub zombie_same : t ≡ p.0 → IsWrapped after next_id as_zombie
      zombie_same same =
          all_dropped after next_id as_zombie (λ v. ⊥)
          (nearly s next_id k w after as_zombie (pass as_zombie stands) (λ v. ⊥)
          (zombie_keeps (λ v. ⊥) (λ v is. elim (zombie_number v is) [
            | inl still ↦ inl still
            | inr it ↦ inl (subst (IsNumber as_zombie) (sym (it ∙ same)) own_number)
          ])) makers_now whole) (λ v extra. extra)

      pub zombie_other : t ≢ p.0 → IsWrapped (without_pair after t) next_id as_zombie
      zombie_other differs =
          all_dropped (without_pair after t) next_id as_zombie (λ v. (v ≡ t) × (v ≢ t))
          (dropped after next_id as_zombie (λ v. v ≡ t)
          (nearly s next_id k w after as_zombie (pass as_zombie stands) (λ v. v ≡ t)
          (zombie_keeps (λ v. v ≡ t) zombie_number) makers_now whole)
          t (thread_nobody as_zombie zombie_left whole differs))
          (λ v extra. extra.1 extra.0)

    -- it is gone
    module _ (whole : IsKernel as_gone) (stands : Stands (given_of s) None new as_gone) where
      abbrev less : System
      less = record after { conns = record s.conns { makers = map.remove s.conns.makers p } }

      abbrev Two : ℕ → Type 0
      Two v = (v ≡ t) ⊎ (v ≡ p.0)

      gone_there : map.get as_gone.processes p ≡ None
      gone_there = get_remove_same vpid_total vpid_exact old p

      nearly_gone : IsNearly less next_id as_gone (λ v. (v ≡ t) ⊎ (v ≡ p.0))
      nearly_gone =
          nearly s next_id k w less as_gone
          (record { ids = refl; conns = refl; names = refl; stands = stands }) (λ v. (v ≡ t) ⊎ (v ≡ p.0))
          (record {
            numbers = numbers_left as_gone gone_left;
            places = λ a h. h;
            names = named_still;
            channels = refl;
            next = refl;
          })
          (ap (λ (m : Makers). map.remove m p) (makers_still ∙ w.stands.exact.makers)) whole

      pub gone_same : t ≡ p.0 → IsWrapped (without_pair less p.0) next_id as_gone
      gone_same same =
          all_dropped (without_pair less p.0) next_id as_gone (λ v. ((v ≡ t) ⊎ (v ≡ p.0)) × (v ≢ p.0))
          (dropped less next_id as_gone (λ v. (v ≡ t) ⊎ (v ≡ p.0)) nearly_gone p.0
          (process_nobody as_gone gone_left whole gone_there))
          (λ v extra. elim extra.0 [ inl it ↦ extra.1 (it ∙ same) | inr it ↦ extra.1 it ])

      pub gone_other : t ≢ p.0 → IsWrapped (without_pair (without_pair less t) p.0) next_id as_gone
      gone_other differs =
          all_dropped (without_pair (without_pair less t) p.0) next_id as_gone
          (λ v. (((v ≡ t) ⊎ (v ≡ p.0)) × (v ≢ t)) × (v ≢ p.0))
          (dropped (without_pair less t) next_id as_gone (λ v. ((v ≡ t) ⊎ (v ≡ p.0)) × (v ≢ t))
          (dropped less next_id as_gone (λ v. (v ≡ t) ⊎ (v ≡ p.0)) nearly_gone t
          (thread_nobody as_gone gone_left whole differs)) p.0
          (process_nobody as_gone gone_left whole gone_there))
          (λ v extra. elim extra.0.0 [ inl it ↦ extra.0.1 it | inr it ↦ extra.1 it ])

      gone_status : is_some (option_and_then status_of (map.get new.procs.processes who)) ≡ false
      gone_status = none_status (map.get as_gone.processes p) (map.get new.procs.processes who)
          (stands.processes.at p who paired) gone_there
        where
          none_status : (o : Option Process) (q : Option real_process.Process)
              → Agree (SameProcess s.ids.pids s.ids.virts p who) o q → o ≡ None
              → is_some (option_and_then status_of q) ≡ false
          none_status None None is e = refl
          none_status None (Some y) is e = absurd is
          none_status (Some z) q is e = absurd (none-some z (sym e))

    -- it tells whether it is a zombie
    module _ (stands : Stands (given_of s) None new as_zombie) where
      zombie_life : (z : Process) → map.get as_zombie.processes p ≡ Some z → z.life ≡ Zombie status
      unfolding after_raise_for_all
      zombie_life z is =
          ap (λ (y : Process). y.life)
          (changed_from vpid_total vpid_exact (changed_at old parent (raised_for_all SIGCHLD)) p
          (zombie status) z is).2

      some_status : (o : Option Process) (q : Option real_process.Process)
          → Agree (SameProcess s.ids.pids s.ids.virts p who) o q → map.get as_zombie.processes p ≡ o
          → IsSome o → is_some (option_and_then status_of q) ≡ true
      some_status None q is e some = true_false (sym some)
      some_status (Some z) None is e some = absurd is
      some_status (Some z) (Some y) is e some =
          ap (λ l. is_some (status_by l)) (sym is.life ∙ zombie_life z e)

      zombie_status : is_some (option_and_then status_of (map.get new.procs.processes who)) ≡ true
      zombie_status =
          some_status (map.get as_zombie.processes p) (map.get new.procs.processes who)
          (stands.processes.at p who paired) refl (zombie_there p ∙ ap is_some there)

    -- the pairs as the thread's went
    module _ (whole : IsKernel (after_leave k p status))
        (stands : Stands (given_of s) None new (after_leave k p status))
        (ids : Pairs) (ids_are : ids ≡ without_thread s.ids p.0 t) where
      abbrev its_status : Bool
      its_status = is_some (option_and_then status_of (map.get new.procs.processes who))

      abbrev zombie_now : Pairs → Type 0
      zombie_now ids = IsWrapped (record s { kernel = new; ids = ids }) next_id as_zombie

      abbrev gone_now : Pairs → Type 0
      gone_now ids =
          IsWrapped (record s {
            kernel = new;
            ids = without_number ids p.0;
            conns = record s.conns { makers = map.remove s.conns.makers p };
          }) next_id as_gone

      zombie_by : IsKernel as_zombie → Stands (given_of s) None new as_zombie → (b : Bool) → (t == p.0) ≡ b
          → zombie_now (cond b s.ids (without_number s.ids t))
      zombie_by whole stands true e = zombie_same whole stands (eqb-true t p.0 e)
      zombie_by whole stands false e =
          zombie_other whole stands (λ same. true_false (sym (eq-eqb t p.0 same) ∙ e))

      gone_by : IsKernel as_gone → Stands (given_of s) None new as_gone → (b : Bool) → (t == p.0) ≡ b
          → gone_now (cond b s.ids (without_number s.ids t))
      gone_by whole stands true e = gone_same whole stands (eqb-true t p.0 e)
      gone_by whole stands false e =
          gone_other whole stands (λ same. true_false (sym (eq-eqb t p.0 same) ∙ e))

      as_left : (b : Bool) → is_live childless parent ≡ b → its_status ≡ true
          → IsWrapped (record s { kernel = new; ids = ids }) next_id (after_leave k p status)
      as_left true e told =
          let is = after_is true e in
          subst (IsWrapped (record s { kernel = new; ids = ids }) next_id) (sym is)
          (subst (λ (i : Pairs). zombie_now i) (sym ids_are)
          (zombie_by (subst IsKernel is whole) (subst (Stands (given_of s) None new) is stands)
          (t == p.0) refl))
      as_left false e told =
          let is = after_is false e in
          true_false (sym told ∙ gone_status (subst IsKernel is whole)
          (subst (Stands (given_of s) None new) is stands))

      as_nobody : (b : Bool) → is_live childless parent ≡ b → its_status ≡ false
          → IsWrapped (record s {
            kernel = new;
            ids = without_number ids p.0;
            conns = record s.conns { makers = map.remove s.conns.makers p };
          }) next_id (after_leave k p status)
      as_nobody true e told =
          let is = after_is true e in
          true_false (sym (zombie_status (subst (Stands (given_of s) None new) is stands)) ∙ told)
      as_nobody false e told =
          let is = after_is false e in
          subst (IsWrapped (record s {
            kernel = new;
            ids = without_number ids p.0;
            conns = record s.conns { makers = map.remove s.conns.makers p };
          }) next_id) (sym is)
          (subst (λ (i : Pairs). gone_now i) (sym ids_are)
          (gone_by (subst IsKernel is whole) (subst (Stands (given_of s) None new) is stands)
          (t == p.0) refl))

      pub stays_zombie : its_status ≡ true
          → IsWrapped (record s { kernel = new; ids = ids }) next_id (after_leave k p status)
      stays_zombie told = as_left (is_live childless parent) refl told

      pub is_nobody : its_status ≡ false → IsWrapped (record s {
        kernel = new;
        ids = without_number ids p.0;
        conns = record s.conns { makers = map.remove s.conns.makers p };
      }) next_id (after_leave k p status)
      is_nobody told = as_nobody (is_live childless parent) refl told
