-- A process that is there changes on both sides, or has a thread more.
--     IsTold-changed       another process stands in its place, with no thread more
--     IsTold-threaded      a thread more, under the next number of its node
use Rattle.std.proofs.Common.{◌≡◌, ◌⊎◌, ℕ, ◌<◌, ◌≤◌, true, Some, None, inl, inr, refl, sym, ap, ◌∙◌, subst, List, length}
use Rattle.std.specs.Prelude.{is_some, IsSome, slice_index}
use Rattle.std.specs.Cmp.{nat_cmp_total}
use Rattle.std.specs.FinMap as map
use Rattle.std.specs.FinMap.{nat_cmp-IsAntisymmetric}
use Rattle.views.proofs.MapLaws.{same_or_other, get_insert_same, get_insert_other}
use Rattle.views.proofs.Seen.{agree_found, SeenBy-insert}
use Rattle.sys_abi.specs.declared.identity.VPid.{VPid}
use Rattle.sys_abi.specs.declared.identity.RealPid.{RealPid}
use Rattle.sys_abi.proofs.OrderLaws.{vpid_total, vpid_exact, real_pid_total, real_pid_exact}
use Rattle.proc_book.specs.declared.process.Process as real_process
use Rattle.proc_book.specs.Procs.{next_of, with_thread, after_add_thread}
use Rattle.plain_tables.specs.declared.process.Process.{Process}
use Rattle.plain_tables.specs.Tables.{FIRST_PID, Processes, Makers, pid, has_thread_in, with_thread_entry}
use Rattle.host_tables.specs.Numbers.{Pids, real, to_real, to_virt}
use Rattle.host_tables.specs.Processes.{SameProcess, SameProcesses}
use Rattle.host_tables.proofs.MorePairs.{real_here, real_kept, real_was}
use Rattle.host_tables.proofs.ProcessChanges.{HasNoMore, AreNumbered-changed}
use Rattle.host_tables.proofs.Ways.{lead_process}
use Rattle.host_processes.proofs.MoreNumbers.{AreNumbered-grows, AreNumbered-thread}
use Rattle.host_processes.proofs.MoreProcesses.{SameProcesses-thread}
use Rattle.rebuild_processes.specs.declared.numbered.Numbered.{Numbered}
use Rattle.rebuild_processes.specs.Making.{IsOwn, IsTold}
use Rattle.rebuild_processes.specs.Steps.{with_pair}
use Rattle.rebuild_processes.proofs.Paired.{ArePaired-new}
use Rattle.rebuild_processes.proofs.RaisedSets.{at_key_is}

-- each thread of the one is one of the other, or has the number of the process
abbrev pub HasAll : VPid → Process → Process → Type 0
HasAll p x x' = (t : ℕ) → IsSome (map.get x.threads t) → IsSome (map.get x'.threads t) ⊎ (t ≡ p.0)

module _ (done : Processes) (p : VPid) (x x' : Process) (there : map.get done p ≡ Some x)
    (all : HasAll p x x') where
  abbrev now : Processes
  now = map.insert done p x'

  here : map.get now p ≡ Some x'
  here = get_insert_same vpid_total vpid_exact done p x'

  of_thread : (w : ℕ) → IsSome (map.get x.threads w) → IsOwn now w
  of_thread w at = elim (all w at) [
    | inl still ↦ inr (p, ap (has_thread_in w) here ∙ still)
    | inr own ↦ inl (ap is_some (ap (λ n. map.get now (pid n)) own ∙ here))
  ]

  pub own_changed : (w : ℕ) → IsOwn done w → IsOwn now w
  own_changed w own = elim own [
    | inl at ↦ elim (same_or_other vpid_total vpid_exact (pid w) p) [
      | inl same ↦ inl (ap is_some (ap (map.get now) same ∙ here))
      | inr differ ↦
          inl (ap is_some (get_insert_other vpid_total vpid_exact done p x' (pid w) differ) ∙ at)
    ]
    | inr at ↦ elim (same_or_other vpid_total vpid_exact at.0 p) [
      | inl same ↦
          of_thread w (sym (ap (has_thread_in w) (ap (map.get done) same ∙ there)) ∙ at.1)
      | inr differ ↦ inr (
        at.0,
        ap (has_thread_in w) (get_insert_other vpid_total vpid_exact done p x' at.0 differ) ∙ at.1,
      )
    ]
  ]

module _ (nodes : List ℕ) (makers : Makers) (done : Processes) (old : Numbered)
    (told : IsTold nodes makers done old) (p : VPid) (who : RealPid)
    (paired : map.get old.ids.pids p.0 ≡ Some who) (x : Process) (there : map.get done p ≡ Some x) where
  pub its_real : (y : real_process.Process) × ((map.get old.procs.processes who ≡ Some y)
      × SameProcess old.ids.pids old.ids.virts p who x y)
  its_real =
      agree_found (SameProcess old.ids.pids old.ids.virts p who) (map.get done p)
      (map.get old.procs.processes who) x (told.processes.at p who paired) there

  module _ (x' : Process) (y' : real_process.Process) (fewer : HasNoMore x' x) (all : HasAll p x x')
      (same : SameProcess old.ids.pids old.ids.virts p who x' y') where
    pub IsTold-changed : IsTold nodes makers (map.insert done p x') (record {
      procs = record { processes = map.insert old.procs.processes who y'; next = old.procs.next };
      ids = old.ids;
    })
    IsTold-changed = record {
      paired = told.paired;
      numbered = AreNumbered-changed nodes old.ids.pids done makers told.numbered p x x' there fewer;
      processes = SeenBy-insert vpid_total vpid_exact real_pid_total real_pid_exact (to_real old.ids.pids)
          (to_virt old.ids.virts) (lead_process old.ids.pids old.ids.virts told.paired.inverse)
          (SameProcess old.ids.pids old.ids.virts) done old.procs.processes told.processes p who paired x' y'
          same;
      numbers = λ w s is. own_changed done p x x' there all w (told.numbers w s is);
      addresses = told.addresses;
      ports = told.ports;
    }

  module _ (t : ℕ) (first : FIRST_PID ≤ t) (node : who.node < length old.procs.next)
      (positive : 1 ≤ slice_index old.procs.next who.node) (new_v : map.get old.ids.pids t ≡ None)
      (new_r : map.get old.ids.virts (real who.node (next_of old.procs who.node)) ≡ None) where
    abbrev pub thread : RealPid
    thread = real who.node (next_of old.procs who.node)

    abbrev pub threaded : Numbered
    threaded = record { procs = after_add_thread old.procs who; ids = with_pair old.ids t thread }

    abbrev pids' : Pids
    pids' = map.insert old.ids.pids t thread

    kept : (w : ℕ) (s : RealPid) → map.get old.ids.pids w ≡ Some s → map.get pids' w ≡ Some s
    kept = real_kept old.ids.pids old.ids.virts told.paired.inverse t thread new_v new_r

    more : HasAll p x (with_thread_entry t x)
    more u at = elim (same_or_other nat_cmp_total nat_cmp-IsAntisymmetric u t) [
      | inl itself ↦ inl (ap is_some (ap (map.get (map.insert x.threads t 0)) itself
          ∙ get_insert_same nat_cmp_total nat_cmp-IsAntisymmetric x.threads t 0))
      | inr differ ↦ inl
          (ap is_some (get_insert_other nat_cmp_total nat_cmp-IsAntisymmetric x.threads t 0 u differ) ∙ at)
    ]

    has_it : has_thread_in t (map.get (map.insert done p (with_thread_entry t x)) p) ≡ true
    has_it =
        ap (has_thread_in t) (get_insert_same vpid_total vpid_exact done p (with_thread_entry t x))
        ∙ ap is_some (get_insert_same nat_cmp_total nat_cmp-IsAntisymmetric x.threads t 0)

    numbers : (w : ℕ) (s : RealPid) → map.get pids' w ≡ Some s
        → IsOwn (map.insert done p (with_thread_entry t x)) w
    numbers w s is =
        elim (real_was old.ids.pids old.ids.virts told.paired.inverse t thread new_v new_r w s is) [
          | inl itself ↦ subst (IsOwn (map.insert done p (with_thread_entry t x))) (sym itself.0)
              (inr (p, has_it))
          | inr before ↦
              own_changed done p x (with_thread_entry t x) there more w (told.numbers w s before.1)
        ]

    pub IsTold-threaded : IsTold nodes makers (map.insert done p (with_thread_entry t x)) threaded
    IsTold-threaded = record {
      paired = ArePaired-new old.ids.pids old.ids.virts old.procs.next t who.node told.paired first node positive
          new_v new_r;
      numbered = AreNumbered-thread nodes pids' done makers
          (AreNumbered-grows nodes old.ids.pids pids' done makers told.numbered kept) p x there t who thread
          (kept p.0 who paired)
          (real_here old.ids.pids old.ids.virts told.paired.inverse t thread new_v new_r) refl;
      processes = subst (SameProcesses pids' (map.insert old.ids.virts thread t)
          (map.insert done p (with_thread_entry t x))) (sym (at_key_is old.procs.processes who (with_thread thread.pid)
          its_real.0 its_real.1.0))
          (SameProcesses-thread old.ids.pids old.ids.virts told.paired.inverse t thread new_v new_r p who paired
          done old.procs.processes told.processes x its_real.0 its_real.1.1 refl);
      numbers = numbers;
      addresses = told.addresses;
      ports = told.ports;
    }
