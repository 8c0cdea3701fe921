-- Each topic by the pairs without one, whose number is no process's and no thread's.
--     pair_gone             each of the two maps still leads back
--     SameProcesses-shrink, SameDescriptors-shrink, SameDescriptions-shrink, AreNumbered-shrinks
use Rattle.std.proofs.Common.{◌≡◌, ◌≢◌, ◌⊎◌, ℕ, List, Option, Some, None, inl, inr, refl, sym, ap, ◌∙◌, subst}
use Rattle.std.specs.Prelude.{IsSome, is_some, option_map, option_and_then, unwrap_or}
use Rattle.std.specs.Cmp.{nat_cmp_total}
use Rattle.std.specs.Ordering.{nat_cmp}
use Rattle.std.specs.FinMap as map
use Rattle.std.specs.FinMap.{FinMap, nat_cmp-IsAntisymmetric}
use Rattle.std.proofs.lemmas.Option.{none-some, same_Some}
use Rattle.views.specs.Seen.{Agree, SeenBy}
use Rattle.views.proofs.MapLaws.{true_false, same_or_other, get_remove_same, get_remove_other}
use Rattle.views.proofs.Seen.{shrunk}
use Rattle.sys_abi.specs.declared.identity.VPid.{VPid}
use Rattle.sys_abi.specs.declared.identity.DescId.{DescId}
use Rattle.sys_abi.specs.declared.identity.RealPid.{RealPid}
use Rattle.sys_abi.specs.declared.identity.Slot.{Slot}
use Rattle.sys_abi.proofs.OrderLaws.{vpid_total, vpid_exact, slot_total, slot_exact, real_pid_total, real_pid_exact}
use Rattle.fd_tables.specs.declared.real_slot.RealSlot.{RealSlot}
use Rattle.fd_tables.specs.declared.description.Desc.{Desc}
use Rattle.fd_tables.specs.Slots as slots
use Rattle.fd_tables.proofs.OrderLaws.{real_slot_total, real_slot_exact}
use Rattle.proc_book.specs.declared.process.Process as real_process
use Rattle.proc_book.specs.Ends as procs
use Rattle.virt_ids.specs.Pairs.{AreInverse}
use Rattle.virt_ids.proofs.PairLaws.{AreInverse-remove}
use Rattle.conn_table.specs.Pairs.{Pairs}
use Rattle.plain_tables.specs.declared.description.Description.{Description}
use Rattle.plain_tables.specs.declared.process.Process.{Process}
use Rattle.plain_tables.specs.Tables.{NOBODY, Processes, Makers, Descriptors, Descriptions, pid, slot}
use Rattle.host_streams.specs.OfHostTables.Datagrams.{RealDescriptions}
use Rattle.host_streams.specs.OfHostTables.Descriptions.{Names, Addresses, seen_desc, SameDescriptions}
use Rattle.host_streams.specs.OfHostTables.Numbers.{Pids, Virts, real, IsNumberOf, IsKnown, number_of, number_on, to_real, to_virt, to_real_thread, to_virt_thread, ArePaired, AreNumbered}
use Rattle.host_streams.specs.OfHostTables.Processes.{IsSame, RealDescriptors, SameProcess, SameProcesses, SameDescriptors, to_slot, from_slot}
use Rattle.host_streams.proofs.OfHostTables.Ways.{lead_process, lead_slot, lead_thread}

module _ (pids : Pids) (virts : Virts) (inverse : AreInverse pids virts) (v : ℕ) (r : RealPid)
    (paired : map.get pids v ≡ Some r) where
  abbrev pub fewer_pids : Pids
  fewer_pids = map.remove pids v

  abbrev pub fewer_virts : Virts
  fewer_virts = map.remove virts r

  pub real_was : (w : ℕ) (s : RealPid) → map.get fewer_pids w ≡ Some s → map.get pids w ≡ Some s
  real_was w s is = elim (same_or_other nat_cmp_total nat_cmp-IsAntisymmetric w v) [
    | inl here ↦ absurd (none-some s
        (sym (get_remove_same nat_cmp_total nat_cmp-IsAntisymmetric pids v) ∙ ap (map.get fewer_pids) (sym here) ∙ is))
    | inr differ ↦ sym (get_remove_other nat_cmp_total nat_cmp-IsAntisymmetric pids v w differ) ∙ is
  ]

  pub other_number : (w : ℕ) (s : RealPid) → map.get fewer_pids w ≡ Some s → w ≢ v
  other_number w s is here =
      none-some s (sym (get_remove_same nat_cmp_total nat_cmp-IsAntisymmetric pids v)
      ∙ ap (map.get fewer_pids) (sym here) ∙ is)

  pub real_beside : (w : ℕ) → w ≢ v → map.get fewer_pids w ≡ map.get pids w
  real_beside w differ = get_remove_other nat_cmp_total nat_cmp-IsAntisymmetric pids v w differ

  virt_was : (s : RealPid) (w : ℕ) → map.get fewer_virts s ≡ Some w → map.get virts s ≡ Some w
  virt_was s w is = elim (same_or_other real_pid_total real_pid_exact s r) [
    | inl here ↦ absurd (none-some w
        (sym (get_remove_same real_pid_total real_pid_exact virts r) ∙ ap (map.get fewer_virts) (sym here) ∙ is))
    | inr differ ↦ sym (get_remove_other real_pid_total real_pid_exact virts r s differ) ∙ is
  ]

  virt_beside : (s : RealPid) → s ≢ r → map.get fewer_virts s ≡ map.get virts s
  virt_beside s differ = get_remove_other real_pid_total real_pid_exact virts r s differ

  -- another number is another's
  apart : (w : ℕ) (s : RealPid) → map.get virts s ≡ Some w → w ≢ v → s ≢ r
  apart w s is differ same =
      differ (same_Some w v (sym is ∙ ap (map.get virts) same ∙ inverse.leads_back v r paired))

  virt_kept : (s : RealPid) (w : ℕ) → map.get virts s ≡ Some w → w ≢ v → map.get fewer_virts s ≡ Some w
  virt_kept s w is differ = virt_beside s (apart w s is differ) ∙ is

  pub pair_gone : AreInverse fewer_pids fewer_virts
  pair_gone =
      AreInverse-remove nat_cmp_total nat_cmp-IsAntisymmetric real_pid_total real_pid_exact pids virts v r inverse paired

  -- threads of one node
  module _ (node : ℕ) (a : FinMap nat_cmp ℕ) (b : FinMap nat_cmp ℕ)
      (seen : SeenBy (to_real_thread pids node) (to_virt_thread virts node) IsSame a b)
      (none : map.get a v ≡ None) where
    thread_was : (t n : ℕ) (o : Option RealPid) → map.get fewer_pids t ≡ o
        → option_and_then (number_on node) o ≡ Some n → to_real_thread pids node t ≡ Some n
    thread_was t n None e h = absurd (none-some n h)
    thread_was t n (Some s) e h = ap (option_and_then (number_on node)) (real_was t s e) ∙ h

    no_thread : (t : ℕ) → to_real_thread fewer_pids node t ≡ None
        → (to_real_thread pids node t ≡ None) ⊎ (map.get a t ≡ None)
    no_thread t h = elim (same_or_other nat_cmp_total nat_cmp-IsAntisymmetric t v) [
      | inl here ↦ inr (ap (map.get a) here ∙ none)
      | inr differ ↦ inl (ap (option_and_then (number_on node)) (sym (real_beside t differ)) ∙ h)
    ]

    none_by : (o q : Option ℕ) → Agree (λ x y. x ≡ y) o q → o ≡ None → q ≡ None
    none_by None None h e = refl
    none_by None (Some y) h e = absurd h
    none_by (Some x) q h e = absurd (none-some x (sym e))

    on_its_node : (n : ℕ) → real node n ≡ r → to_real_thread pids node v ≡ Some n
    on_its_node n same =
        (lead_thread pids virts inverse node).there v n
        (ap (map.get virts) same ∙ inverse.leads_back v r paired)

    no_real_thread : (n : ℕ) → to_virt_thread fewer_virts node n ≡ None
        → (to_virt_thread virts node n ≡ None) ⊎ (map.get b n ≡ None)
    no_real_thread n h = elim (same_or_other real_pid_total real_pid_exact (real node n) r) [
      | inl here ↦ inr (none_by (map.get a v) (map.get b n) (seen.at v n (on_its_node n here)) none)
      | inr differ ↦ inl (sym (virt_beside (real node n) differ) ∙ h)
    ]

    threads_shrink : SeenBy (to_real_thread fewer_pids node) (to_virt_thread fewer_virts node) IsSame a b
    threads_shrink =
        shrunk nat_cmp_total nat_cmp-IsAntisymmetric nat_cmp_total nat_cmp-IsAntisymmetric
        (to_real_thread pids node) (to_virt_thread virts node) (lead_thread pids virts inverse node) IsSame
        (to_real_thread fewer_pids node) (to_virt_thread fewer_virts node) IsSame a b seen
        (λ t n leads. thread_was t n (map.get fewer_pids t) refl leads) (λ t n x y leads e f is. is)
        no_thread no_real_thread

  -- processes
  parent_shrinks : (o : Option RealPid) (n : ℕ) → n ≢ v → IsNumberOf virts NOBODY o n
      → IsNumberOf fewer_virts NOBODY o n
  parent_shrinks None n differ is = is
  parent_shrinks (Some s) n differ is = virt_kept s n is differ

  module _ (virt : Processes) (table : procs.Processes) (same : SameProcesses pids virts virt table)
      (gone : map.get virt (pid v) ≡ None)
      (no_thread : (p : VPid) (x : Process) → map.get virt p ≡ Some x → map.get x.threads v ≡ None)
      (no_parent : (p : VPid) (x : Process) → map.get virt p ≡ Some x → x.parent ≢ v) where
    its_real : (s : RealPid) → s ≡ r → map.get table s ≡ None
    its_real s here = ap (map.get table) here ∙ by_agree (map.get virt (pid v)) (map.get table r) (same.at (pid v) r paired) gone
      where
        by_agree : (o : Option Process) (q : Option real_process.Process)
            → Agree (SameProcess pids virts (pid v) r) o q → o ≡ None → q ≡ None
        by_agree None None h e = refl
        by_agree None (Some y) h e = absurd h
        by_agree (Some x) q h e = absurd (none-some x (sym e))

    no_virt : (s : RealPid) (o : Option ℕ) → map.get fewer_virts s ≡ o → option_map pid o ≡ None
        → (to_virt virts s ≡ None) ⊎ (map.get table s ≡ None)
    no_virt s (Some w) e h = absurd (none-some (pid w) (sym h))
    no_virt s None e h = elim (same_or_other real_pid_total real_pid_exact s r) [
      | inl here ↦ inr (its_real s here)
      | inr differ ↦ inl (ap (option_map pid) (sym (virt_beside s differ) ∙ e))
    ]

    no_process : (p : VPid) → to_real fewer_pids p ≡ None → (to_real pids p ≡ None) ⊎ (map.get virt p ≡ None)
    no_process p h = elim (same_or_other nat_cmp_total nat_cmp-IsAntisymmetric p.0 v) [
      | inl here ↦ inr (ap (λ n. map.get virt (pid n)) here ∙ gone)
      | inr differ ↦ inl (sym (real_beside p.0 differ) ∙ h)
    ]

    pub SameProcesses-shrink : SameProcesses fewer_pids fewer_virts virt table
    SameProcesses-shrink =
        shrunk vpid_total vpid_exact real_pid_total real_pid_exact (to_real pids) (to_virt virts)
        (lead_process pids virts inverse) (SameProcess pids virts) (to_real fewer_pids) (to_virt fewer_virts)
        (SameProcess fewer_pids fewer_virts) virt table same (λ p s leads. real_was p.0 s leads)
        (λ p s x y leads e f is. record {
          life = is.life;
          pending = is.pending;
          parent = parent_shrinks y.parent x.parent (no_parent p x e) is.parent;
          threads = threads_shrink s.node x.threads y.threads is.threads (no_thread p x e);
        })
        no_process (λ s none. no_virt s (map.get fewer_virts s) refl none)

  -- descriptors
  module _ (virt : Descriptors) (table : RealDescriptors) (same : SameDescriptors pids virts virt table)
      (none : (at : Slot) → at.pid.0 ≡ v → map.get virt at ≡ None) where
    slot_was : (at : Slot) (s : RealSlot) (o : Option RealPid) → map.get fewer_pids at.pid.0 ≡ o
        → option_map (λ x. slots.slot x at.fd) o ≡ Some s → to_slot pids at ≡ Some s
    slot_was at s None e h = absurd (none-some s h)
    slot_was at s (Some x) e h = ap (option_map (λ x. slots.slot x at.fd)) (real_was at.pid.0 x e) ∙ h

    no_slot : (at : Slot) → to_slot fewer_pids at ≡ None → (to_slot pids at ≡ None) ⊎ (map.get virt at ≡ None)
    no_slot at h = elim (same_or_other nat_cmp_total nat_cmp-IsAntisymmetric at.pid.0 v) [
      | inl here ↦ inr (none at here)
      | inr differ ↦ inl (ap (option_map (λ x. slots.slot x at.fd)) (sym (real_beside at.pid.0 differ)) ∙ h)
    ]

    its_slot : (s : RealSlot) → s.pid ≡ r → map.get table s ≡ None
    its_slot s here =
        by_agree (map.get virt (slot (pid v) s.fd)) (map.get table s)
        (same.at (slot (pid v) s.fd) s (ap (option_map (λ x. slots.slot x s.fd)) (paired ∙ ap Some (sym here))))
        (none (slot (pid v) s.fd) refl)
      where
        by_agree : {A : Type 0} (o q : Option A) → Agree (λ x y. x ≡ y) o q → o ≡ None → q ≡ None
        by_agree None None h e = refl
        by_agree None (Some y) h e = absurd h
        by_agree (Some x) q h e = absurd (none-some x (sym e))

    no_virt_slot : (s : RealSlot) (o : Option ℕ) → map.get fewer_virts s.pid ≡ o
        → option_map (λ p. slot p s.fd) (option_map pid o) ≡ None
        → (from_slot virts s ≡ None) ⊎ (map.get table s ≡ None)
    no_virt_slot s (Some w) e h = absurd (none-some (slot (pid w) s.fd) (sym h))
    no_virt_slot s None e h = elim (same_or_other real_pid_total real_pid_exact s.pid r) [
      | inl here ↦ inr (its_slot s here)
      | inr differ ↦ inl (ap (λ o. option_map (λ p. slot p s.fd) (option_map pid o)) (sym (virt_beside s.pid differ) ∙ e))
    ]

    pub SameDescriptors-shrink : SameDescriptors fewer_pids fewer_virts virt table
    SameDescriptors-shrink =
        shrunk slot_total slot_exact real_slot_total real_slot_exact (to_slot pids) (from_slot virts)
        (lead_slot pids virts inverse) IsSame (to_slot fewer_pids) (from_slot fewer_virts) IsSame virt table same
        (λ at s leads. slot_was at s (map.get fewer_pids at.pid.0) refl leads) (λ at s x y leads e f is. is)
        no_slot (λ s none. no_virt_slot s (map.get fewer_virts s.pid) refl none)

  -- owners
  number_by : (s : RealPid) (o : Option ℕ) → map.get virts s ≡ o → IsSome o → unwrap_or o 0 ≢ v
      → (unwrap_or (map.get fewer_virts s) 0 ≡ unwrap_or (map.get virts s) 0) × IsSome (map.get fewer_virts s)
  number_by s None e h differ = true_false (sym h)
  number_by s (Some w) e h differ =
      let kept = virt_kept s w e differ in
      (ap (λ o. unwrap_or o 0) (kept ∙ sym e), ap is_some kept)

  number_shrinks : (o : Option RealPid) → IsKnown virts o → number_of virts 0 o ≢ v
      → (number_of fewer_virts 0 o ≡ number_of virts 0 o) × IsKnown fewer_virts o
  number_shrinks None known differ = (refl, tt)
  number_shrinks (Some s) known differ = number_by s (map.get virts s) refl known differ

  module _ (names : Names) (addresses : Addresses) (pairs : Pairs) (virt : Descriptions)
      (table : RealDescriptions) (same : SameDescriptions virts names addresses pairs None virt table)
      (no_owner : (id : DescId) (x : Description) → map.get virt id ≡ Some x → x.owner ≢ v) where
    owner_other : (id : DescId) (d : Desc) → map.get table id ≡ Some d → number_of virts 0 d.owner ≢ v
    owner_other id d e =
        no_owner id (seen_desc virts names pairs None id d)
        (same.each id ∙ ap (option_map (seen_desc virts names pairs None id)) e)

    seen_by : (id : DescId) (o : Option Desc) → map.get table id ≡ o
        → option_map (seen_desc virts names pairs None id) o ≡ option_map (seen_desc fewer_virts names pairs None id) o
    seen_by id None e = refl
    seen_by id (Some d) e =
        ap (λ n. Some (record (seen_desc virts names pairs None id d) { owner = n }))
        (sym (number_shrinks d.owner (same.owners id d e) (owner_other id d e)).0)

    pub SameDescriptions-shrink : SameDescriptions fewer_virts names addresses pairs None virt table
    SameDescriptions-shrink = record {
      each = λ id. same.each id ∙ seen_by id (map.get table id) refl;
      owners = λ id d is. (number_shrinks d.owner (same.owners id d is) (owner_other id d is)).1;
      objects = same.objects;
    }

  -- numbers
  pub AreNumbered-shrinks : (nodes : List ℕ) (processes : Processes) (makers : Makers)
      → map.get processes (pid v) ≡ None
      → ((p : VPid) (x : Process) → map.get processes p ≡ Some x → map.get x.threads v ≡ None)
      → AreNumbered nodes pids processes makers → AreNumbered nodes fewer_pids processes makers
  AreNumbered-shrinks nodes processes makers gone no_thread are = record {
    process = λ p x is.
        subst IsSome (sym (real_beside p.0 (λ same.
        none-some x (sym gone ∙ ap (λ n. map.get processes (pid n)) (sym same) ∙ is)))) (are.process p x is);
    thread = λ p x t is at.
        subst IsSome (sym (real_beside t (λ same.
        true_false (sym at ∙ ap is_some (ap (map.get x.threads) same ∙ no_thread p x is))))) (are.thread p x t is at);
    node = λ p x m s is made leads. are.node p x m s is made (real_was p.0 s leads);
    thread_node = λ p x t s u is at leads thread.
        are.thread_node p x t s u is at (real_was p.0 s leads) (real_was t u thread);
    order = λ p q s u at_p at_q on leads_p leads_q less.
        are.order p q s u at_p at_q on (real_was p.0 s leads_p) (real_was q.0 u leads_q) less;
  }

  pub ArePaired-shrinks : (given next : List ℕ) → ArePaired pids virts given next
      → ArePaired fewer_pids fewer_virts given next
  ArePaired-shrinks given next are = record {
    inverse = pair_gone;
    handed_out = λ w s is. are.handed_out w s (real_was w s is);
    next_is = are.next_is;
  }
