-- A process that has ended and was not waited for, made of one that was just started.
--     its_parent           the parent's real number
--     parent_lives, parent_apart, parent_none, IsLiveChild-begun, IsChildless-begun      what its end needs
--     IsAt-ended           it has ended
use Rattle.std.proofs.Common.{◌≡◌, ◌≢◌, ℕ, ◌<◌, ◌≤◌, true, false, Option, Some, None, inl, inr, refl, sym, ap, ◌∙◌, subst, arith}
use Rattle.std.specs.Prelude.{is_some, unwrap_or}
use Rattle.std.specs.Option.{option_map_or}
use Rattle.std.specs.Cmp.{nat_cmp_total}
use Rattle.std.specs.Ordering.{nat_cmp}
use Rattle.std.specs.FinMap as map
use Rattle.std.specs.FinMap.{FinMap, nat_cmp-IsAntisymmetric}
use Rattle.std.proofs.lemmas.Option.{same_Some}
use Rattle.views.specs.Seen.{SeenBy}
use Rattle.views.proofs.MapLaws.{true_false, same_or_other, other_key, get_insert_same, get_insert_other, insert_insert}
use Rattle.views.proofs.Seen.{SeenBy-empty, virt_of}
use Rattle.sys_abi.specs.declared.identity.VPid.{VPid}
use Rattle.sys_abi.specs.declared.identity.RealPid.{RealPid}
use Rattle.sys_abi.specs.declared.life.Life.{Life}
use Rattle.sys_abi.specs.declared.life.Life.TheVariants.{Live, Zombie}
use Rattle.sys_abi.specs.Lives.{lives}
use Rattle.sys_abi.proofs.OrderLaws.{vpid_total, vpid_exact, real_pid_total, real_pid_exact}
use Rattle.virt_ids.specs.Changes.{at_key}
use Rattle.proc_book.specs.declared.process.Process as real_process
use Rattle.proc_book.specs.Ends.{is_live_at}
use Rattle.proc_book.specs.Processes.{is_live, is_parent, zombie}
use Rattle.proc_book.specs.Procs.{pending_of}
use Rattle.proc_book.specs.Waits.{IsChildless}
use Rattle.plain_tables.specs.declared.process.Process.{Process}
use Rattle.plain_tables.specs.Ends.{child_process}
use Rattle.plain_tables.specs.Tables.{FIRST_PID, NOBODY, Processes, pid, is_live_process}
use Rattle.plain_tables.specs.Valid.Processes.{FitsLife, HasParent, IsParent}
use Rattle.plain_machine.specs.declared.kernel.PlainKernel.{PlainKernel}
use Rattle.plain_machine.specs.Kernels.{IsKernel}
use Rattle.host_tables.specs.declared.kernel.Hosts.{Hosts}
use Rattle.host_tables.specs.Numbers.{IsNumberOf, real, to_real, to_virt, to_real_thread, to_virt_thread}
use Rattle.host_tables.specs.Processes.{IsSame, SameProcess}
use Rattle.host_tables.proofs.LookUps.{some_value}
use Rattle.host_tables.proofs.ProcessChanges.{HasNoMore}
use Rattle.host_tables.proofs.Ways.{lead_process}
use Rattle.rebuild_tables.specs.Hosts.{nodes_from}
use Rattle.rebuild_processes.specs.declared.numbered.Numbered.{Numbered}
use Rattle.rebuild_processes.specs.Making.{IsTold, IsAt, IsLiveChild}
use Rattle.rebuild_processes.proofs.Changed.{HasAll, its_real, IsTold-changed}
use Rattle.rebuild_processes.proofs.RaisedSets.{at_key_is}
use Rattle.rebuild_processes.proofs.Sets.{with_table}

-- a parent's number is lower than its child's, or nobody's

lower : (a b : ℕ) → a < b → a ≡ b → ⊥
lower a b less same = omega (arith, less, same)

lower_two : (a b c : ℕ) → a < b → b < c → a ≡ c → ⊥
lower_two a b c first second same = omega (arith, first, second, same)

nobody : (a b : ℕ) → a ≡ NOBODY → FIRST_PID ≤ b → a ≡ b → ⊥
nobody a b none first same = omega (arith, none, first, same)

no_zero : 1 ≤ 0 → ⊥
no_zero h = omega (arith, h)

module _ (h : Hosts) (k : PlainKernel) (whole : IsKernel k) (p : VPid) (r : RealPid) (x : Process)
    (is : map.get k.processes p ≡ Some x) (status : ℕ) (dead : x.life ≡ Zombie status) (m : Numbered)
    (at : IsAt h k p r (child_process x.parent p.0) m) where
  abbrev child : Process
  child = child_process x.parent p.0

  abbrev now : Processes
  now = map.insert at.done p child

  of : IsParent k.processes k.makers p x.parent
  of = (subst (HasParent k.processes k.makers p x.parent) dead (whole.parents.each p x is)).0

  live_there : (o : Option Process) → is_live_process o ≡ true
      → (z : Process) × ((o ≡ Some z) × (lives z.life ≡ true))
  live_there None alive = true_false (sym alive)
  live_there (Some z) alive = (z, (refl, alive))

  its : (z : Process) × ((map.get k.processes (pid x.parent) ≡ Some z) × (lives z.life ≡ true))
  its = live_there (map.get k.processes (pid x.parent)) of.alive

  parent_there : map.get now (pid x.parent) ≡ Some its.0
  parent_there =
      get_insert_other vpid_total vpid_exact at.done p child (pid x.parent)
      (λ same. lower x.parent p.0 of.below (ap (λ (q : VPid). q.0) same))
      ∙ at.front.each (pid x.parent) its.0 its.1.0 of.below

  pub its_parent : (parent : RealPid) × (map.get m.ids.pids x.parent ≡ Some parent)
  its_parent =
      some_value (map.get m.ids.pids x.parent)
      (at.told.numbered.process (pid x.parent) its.0 parent_there)

  there : map.get now p ≡ Some child
  there = get_insert_same vpid_total vpid_exact at.done p child

  module _ (parent : RealPid) (paired : map.get m.ids.pids x.parent ≡ Some parent) where
    back : map.get m.ids.virts parent ≡ Some x.parent
    back = at.told.paired.inverse.leads_back x.parent parent paired

    itself : map.get m.ids.virts r ≡ Some p.0
    itself = at.told.paired.inverse.leads_back p.0 r at.paired

    pub parent_apart : parent ≢ r
    parent_apart same = lower x.parent p.0 of.below
        (same_Some x.parent p.0 (sym back ∙ ap (map.get m.ids.virts) same ∙ itself))

    -- the parent's real process

    real_parent : (y : real_process.Process) × ((map.get m.procs.processes parent ≡ Some y)
        × SameProcess m.ids.pids m.ids.virts (pid x.parent) parent its.0 y)
    real_parent =
        its_real (nodes_from h) k.makers now m at.told (pid x.parent) parent paired its.0 parent_there

    pub parent_lives : is_live_at m.procs.processes parent ≡ true
    parent_lives =
        ap (λ o. option_map_or is_live o false) real_parent.1.0 ∙ ap lives (sym real_parent.1.1.life)
        ∙ its.1.1

    no_thread : (o : Option ℕ) → map.get m.ids.virts (real parent.node 0) ≡ o
        → map.get real_parent.0.threads 0 ≡ None
    no_thread None e = real_parent.1.1.threads.real_alone 0 e
    no_thread (Some v) e =
        absurd (no_zero (at.told.paired.handed_out v (real parent.node 0)
        (at.told.paired.inverse.leads_there v (real parent.node 0) e)).first)

    pub parent_none : pending_of (Some 0) (map.get m.procs.processes parent) ≡ 0
    parent_none =
        ap (pending_of (Some 0)) real_parent.1.0
        ∙ ap (λ o. unwrap_or o 0) (no_thread (map.get m.ids.virts (real parent.node 0)) refl)

    -- the process

    mine : (y : real_process.Process) × ((map.get m.procs.processes r ≡ Some y)
        × SameProcess m.ids.pids m.ids.virts p r child y)
    mine = its_real (nodes_from h) k.makers now m at.told p r at.paired child there

    its_number : (o : Option RealPid) → IsNumberOf m.ids.virts NOBODY o x.parent → o ≡ Some parent
    its_number None none = absurd (nobody x.parent x.parent none (at.told.paired.handed_out x.parent parent
        paired).virt refl)
    its_number (Some s) leads =
        sym (at.told.paired.inverse.leads_there x.parent s leads) ∙ paired

    pub IsLiveChild-begun : IsLiveChild m.procs.processes r parent
    IsLiveChild-begun = record {
      process = mine.0;
      there = mine.1.0;
      lives = ap lives (sym mine.1.1.life);
      of = its_number mine.0.parent mine.1.1.parent;
    }

    -- what has this parent has a greater number

    earlier : (q : VPid) (z : Process) → map.get at.done q ≡ Some z → (life : Life) → z.life ≡ life
        → z.parent ≡ p.0 → ⊥
    earlier q z found Live lives same =
        let was = at.front.of q z found in
        elim (subst (HasParent k.processes k.makers q z.parent) lives (whole.parents.each q z was.0)) [
          | inl none ↦ nobody z.parent p.0 none (whole.processes.each p x is).number.0 same
          | inr its ↦ lower_two z.parent q.0 p.0 its.below was.1 same
        ]
    earlier q z found (Zombie s) ends same =
        let was = at.front.of q z found in
        lower_two z.parent q.0 p.0
        (subst (HasParent k.processes k.makers q z.parent) ends (whole.parents.each q z was.0)).0.below was.1
        same

    not_parent : (q : VPid) (z : Process) → map.get now q ≡ Some z → z.parent ≡ p.0 → ⊥
    not_parent q z found same = elim (same_or_other vpid_total vpid_exact q p) [
      | inl here ↦
          let as_child : child ≡ z = same_Some child z (sym there ∙ ap (map.get now) (sym here) ∙ found) in
          lower x.parent p.0 of.below (ap (λ (y : Process). y.parent) as_child ∙ same)
      | inr differ ↦
          earlier q z (sym (get_insert_other vpid_total vpid_exact at.done p child q differ) ∙ found) z.life
          refl same
    ]

    no_child : (z : Process) (o : Option RealPid) → (z.parent ≡ p.0 → ⊥)
        → IsNumberOf m.ids.virts NOBODY o z.parent → is_parent r o ≡ false
    no_child z None apart number = refl
    no_child z (Some s) apart number = other_key real_pid_total real_pid_exact r s (λ same.
        apart (same_Some z.parent p.0 (sym number ∙ ap (map.get m.ids.virts) (sym same) ∙ itself)))

    pub IsChildless-begun : IsChildless m.procs.processes r
    IsChildless-begun q y found =
        let v =
        virt_of vpid_total vpid_exact real_pid_total real_pid_exact (to_real m.ids.pids) (to_virt m.ids.virts)
        (lead_process m.ids.pids m.ids.virts at.told.paired.inverse) (SameProcess m.ids.pids m.ids.virts) now
        m.procs.processes at.told.processes q y found in
        no_child v.1.1.0 y.parent (not_parent v.0 v.1.1.0 v.1.1.1.0) v.1.1.1.1.parent

    -- it has ended

    fits : (map.len x.threads ≡ 0) × (x.pending ≡ 0)
    fits = subst (λ (life : Life). FitsLife life x.threads x.pending) dead (whole.processes.each p x is).life

    no_threads : x.threads ≡ map.empty
    no_threads = map.empty_of_len x.threads fits.0

    fewer : HasNoMore x child
    fewer t has = true_false (sym has ∙ ap is_some (ap (λ threads. map.get threads t) no_threads
        ∙ map.get-empty {X = ℕ} nat_cmp t))

    all : HasAll p child x
    all t has = elim (same_or_other nat_cmp_total nat_cmp-IsAntisymmetric t p.0) [
      | inl own ↦ inr own
      | inr differ ↦ true_false (sym has ∙ ap is_some
          (get_insert_other nat_cmp_total nat_cmp-IsAntisymmetric map.empty p.0 0 t differ
          ∙ map.get-empty {X = ℕ} nat_cmp t))
    ]

    same : SameProcess m.ids.pids m.ids.virts p r x (zombie status mine.0)
    same = record {
      life = dead;
      pending = fits.1;
      parent = mine.1.1.parent;
      threads = subst (λ (threads : FinMap nat_cmp ℕ). SeenBy (to_real_thread m.ids.pids r.node)
          (to_virt_thread m.ids.virts r.node) IsSame threads (map.empty {R = nat_cmp})) (sym no_threads)
          (SeenBy-empty nat_cmp nat_cmp (to_real_thread m.ids.pids r.node) (to_virt_thread m.ids.virts r.node)
          IsSame);
    }

    abbrev pub ended : Numbered
    ended = with_table m (at_key m.procs.processes r (zombie status))

    pub IsAt-ended : IsAt h k p r x ended
    IsAt-ended = record {
      done = at.done;
      front = at.front;
      told = subst (λ table. IsTold (nodes_from h) k.makers (map.insert at.done p x) (with_table m table))
          (sym (at_key_is m.procs.processes r (zombie status) mine.0 mine.1.0))
          (subst (λ (ps : Processes). IsTold (nodes_from h) k.makers ps
          (with_table m (map.insert m.procs.processes r (zombie status mine.0))))
          (insert_insert vpid_total vpid_exact at.done p child x)
          (IsTold-changed (nodes_from h) k.makers now m at.told p r at.paired child there x
          (zombie status mine.0) fewer all same));
      nodes = at.nodes;
      from = at.from;
      paired = at.paired;
    }
