-- The pending signals of a process, or of a thread of one, are made a set on both sides.
--     IsTold-thread_set, IsTold-process_set
--     process_can, process_pends      a process that lives, for which none is pending
--     IsTold-thread_gone      the thread of its own number ends
use Rattle.std.proofs.Common.{◌≡◌, ℕ, true, false, Some, None, inl, inr, refl, sym, ap, ◌∙◌, subst, List}
use Rattle.std.specs.Prelude.{◌&&◌, is_some, unwrap_or}
use Rattle.std.specs.Option.{option_map_or}
use Rattle.std.specs.Cmp.{nat_cmp_total}
use Rattle.std.specs.FinMap as map
use Rattle.std.specs.FinMap.{nat_cmp-IsAntisymmetric}
use Rattle.views.specs.Seen.{SeenBy}
use Rattle.views.proofs.MapLaws.{true_false, same_or_other, get_insert_same, get_insert_other, get_remove_same, get_remove_other}
use Rattle.views.proofs.Seen.{agree_found, SeenBy-insert, SeenBy-remove}
use Rattle.sys_abi.specs.declared.identity.VPid.{VPid}
use Rattle.sys_abi.specs.declared.identity.RealPid.{RealPid}
use Rattle.sys_abi.specs.Lives.{lives}
use Rattle.sys_abi.specs.declared.life.Life.TheVariants.{Live}
use Rattle.virt_ids.specs.Changes.{at_key}
use Rattle.proc_book.specs.declared.process.Process as real_process
use Rattle.proc_book.specs.Ends as procs
use Rattle.proc_book.specs.Processes.{lives_with}
use Rattle.proc_book.specs.Procs.{can_raise, pending_of, without_thread}
use Rattle.plain_tables.specs.declared.process.Process.{Process}
use Rattle.plain_tables.specs.Tables.{Processes, Makers, with_signals}
use Rattle.host_tables.specs.Numbers.{to_real_thread, to_virt_thread}
use Rattle.host_tables.specs.Processes.{IsSame, SameProcess}
use Rattle.host_tables.proofs.ProcessChanges.{HasNoMore}
use Rattle.host_tables.proofs.Ways.{lead_thread}
use Rattle.rebuild_processes.specs.declared.numbered.Numbered.{Numbered}
use Rattle.rebuild_processes.specs.Making.{with_set, IsTold}
use Rattle.rebuild_processes.proofs.Changed.{HasAll, its_real, IsTold-changed}
use Rattle.rebuild_processes.proofs.RaisedSets.{at_key_is}

abbrev pub with_table : Numbered → procs.Processes → Numbered
with_table m table = record { procs = record { processes = table; next = m.procs.next }; ids = m.ids }

module _ (nodes : List ℕ) (makers : Makers) (done : Processes) (m : Numbered) (told : IsTold nodes makers done m)
    (p : VPid) (r : RealPid) (paired : map.get m.ids.pids p.0 ≡ Some r) (x : Process)
    (there : map.get done p ≡ Some x) where
  abbrev real : real_process.Process
  real = (its_real nodes makers done m told p r paired x there).0

  real_is : map.get m.procs.processes r ≡ Some real
  real_is = (its_real nodes makers done m told p r paired x there).1.0

  same : SameProcess m.ids.pids m.ids.virts p r x real
  same = (its_real nodes makers done m told p r paired x there).1.1

  pub IsTold-process_set : (set : ℕ) → IsTold nodes makers (map.insert done p (record x { pending = set }))
      (with_table m (at_key m.procs.processes r (with_set None set)))
  IsTold-process_set set =
      subst (λ table. IsTold nodes makers (map.insert done p (record x { pending = set })) (with_table m table))
      (sym (at_key_is m.procs.processes r (with_set None set) real real_is))
      (IsTold-changed nodes makers done m told p r paired x there (record x { pending = set })
      (with_set None set real) (λ t at. at) (λ t at. inl at)
      (record { life = same.life; pending = refl; parent = same.parent; threads = same.threads }))

  pub process_can : x.life ≡ Live → can_raise m.procs.processes r None ≡ true
  process_can live =
      ap (λ o. option_map_or (lives_with None) o false) real_is ∙ ap lives (sym same.life ∙ live)

  pub process_pends : x.pending ≡ 0 → pending_of None (map.get m.procs.processes r) ≡ 0
  process_pends none = ap (pending_of None) real_is ∙ sym same.pending ∙ none

  module _ (t n a set : ℕ) (leads : to_real_thread m.ids.pids r.node t ≡ Some n)
      (has : map.get x.threads t ≡ Some a) where
    found : (b : ℕ) × ((map.get real.threads n ≡ Some b) × (a ≡ b))
    found =
        agree_found (λ (u v : ℕ). u ≡ v) (map.get x.threads t) (map.get real.threads n) a
        (same.threads.at t n leads) has

    -- none is pending for the thread of a process that lives

    pub can : x.life ≡ Live → can_raise m.procs.processes r (Some n) ≡ true
    can live =
        ap (λ o. option_map_or (lives_with (Some n)) o false) real_is
        ∙ ap (λ life. lives life && is_some (map.get real.threads n)) (sym same.life ∙ live)
        ∙ ap is_some found.1.0

    pub pends_none : a ≡ 0 → pending_of (Some n) (map.get m.procs.processes r) ≡ 0
    pends_none none =
        ap (pending_of (Some n)) real_is ∙ ap (λ o. unwrap_or o 0) found.1.0 ∙ sym found.1.1 ∙ none

    no_more : HasNoMore (with_signals x t set) x
    no_more u at = elim (same_or_other nat_cmp_total nat_cmp-IsAntisymmetric u t) [
      | inl here ↦ ap is_some (ap (map.get x.threads) here ∙ has)
      | inr differ ↦
          sym (ap is_some (get_insert_other nat_cmp_total nat_cmp-IsAntisymmetric x.threads t set u differ)) ∙ at
    ]

    all : HasAll p x (with_signals x t set)
    all u at = elim (same_or_other nat_cmp_total nat_cmp-IsAntisymmetric u t) [
      | inl here ↦ inl (ap is_some (ap (map.get (map.insert x.threads t set)) here
          ∙ get_insert_same nat_cmp_total nat_cmp-IsAntisymmetric x.threads t set))
      | inr differ ↦ inl
          (ap is_some (get_insert_other nat_cmp_total nat_cmp-IsAntisymmetric x.threads t set u differ) ∙ at)
    ]

    threads : SeenBy (to_real_thread m.ids.pids r.node) (to_virt_thread m.ids.virts r.node) IsSame
        (map.insert x.threads t set) (at_key real.threads n (λ _. set))
    threads =
        subst (SeenBy (to_real_thread m.ids.pids r.node) (to_virt_thread m.ids.virts r.node) IsSame
        (map.insert x.threads t set)) (sym (at_key_is real.threads n (λ _. set) found.0 found.1.0))
        (SeenBy-insert nat_cmp_total nat_cmp-IsAntisymmetric nat_cmp_total nat_cmp-IsAntisymmetric
        (to_real_thread m.ids.pids r.node) (to_virt_thread m.ids.virts r.node)
        (lead_thread m.ids.pids m.ids.virts told.paired.inverse r.node) IsSame x.threads real.threads
        same.threads t n leads set set refl)

    pub IsTold-thread_set : IsTold nodes makers (map.insert done p (with_signals x t set))
        (with_table m (at_key m.procs.processes r (with_set (Some n) set)))
    IsTold-thread_set =
        subst (λ table. IsTold nodes makers (map.insert done p (with_signals x t set)) (with_table m table))
        (sym (at_key_is m.procs.processes r (with_set (Some n) set) real real_is))
        (IsTold-changed nodes makers done m told p r paired x there (with_signals x t set)
        (with_set (Some n) set real) no_more all
        (record { life = same.life; pending = same.pending; parent = same.parent; threads = threads }))

  -- the thread of its own number is gone

  module _ (n : ℕ) (leads : to_real_thread m.ids.pids r.node p.0 ≡ Some n) where
    abbrev gone : Process
    gone = record x { threads = map.remove x.threads p.0 }

    gone_fewer : HasNoMore gone x
    gone_fewer u at = elim (same_or_other nat_cmp_total nat_cmp-IsAntisymmetric u p.0) [
      | inl here ↦ true_false (sym at ∙ ap is_some (ap (map.get gone.threads) here
          ∙ get_remove_same nat_cmp_total nat_cmp-IsAntisymmetric x.threads p.0))
      | inr differ ↦
          sym (ap is_some (get_remove_other nat_cmp_total nat_cmp-IsAntisymmetric x.threads p.0 u differ)) ∙ at
    ]

    gone_all : HasAll p x gone
    gone_all u at = elim (same_or_other nat_cmp_total nat_cmp-IsAntisymmetric u p.0) [
      | inl here ↦ inr here
      | inr differ ↦ inl
          (ap is_some (get_remove_other nat_cmp_total nat_cmp-IsAntisymmetric x.threads p.0 u differ) ∙ at)
    ]

    pub IsTold-thread_gone : IsTold nodes makers (map.insert done p gone)
        (with_table m (at_key m.procs.processes r (without_thread n)))
    IsTold-thread_gone =
        subst (λ table. IsTold nodes makers (map.insert done p gone) (with_table m table))
        (sym (at_key_is m.procs.processes r (without_thread n) real real_is))
        (IsTold-changed nodes makers done m told p r paired x there gone (without_thread n real) gone_fewer
        gone_all
        (record {
          life = same.life;
          pending = same.pending;
          parent = same.parent;
          threads = SeenBy-remove nat_cmp_total nat_cmp-IsAntisymmetric nat_cmp_total nat_cmp-IsAntisymmetric
              (to_real_thread m.ids.pids r.node) (to_virt_thread m.ids.virts r.node)
              (lead_thread m.ids.pids m.ids.virts told.paired.inverse r.node) IsSame x.threads real.threads
              same.threads p.0 n leads;
        }))
