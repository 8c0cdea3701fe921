-- A process more under the next number of its node.
--     IsTold-begun      the tables have it then, with the one thread of its own number
use Rattle.std.proofs.Common.{◌≡◌, ℕ, ◌<◌, ◌≤◌, true, Option, Some, None, inl, inr, refl, sym, ap, ◌∙◌, subst, List, length, arith}
use Rattle.std.specs.Prelude.{◌==◌, is_some, IsSome, slice_index, option_and_then, if◌then◌else◌}
use Rattle.std.specs.Cmp.{nat_cmp_total}
use Rattle.std.specs.FinMap as map
use Rattle.std.specs.FinMap.{nat_cmp-IsAntisymmetric}
use Rattle.std.specs.Ordering.{nat_cmp}
use Rattle.std.proofs.lemmas.Bool.{eq-eqb}
use Rattle.views.specs.Seen.{SeenBy}
use Rattle.views.proofs.MapLaws.{true_false, get_insert_same, get_insert_other, insert_same}
use Rattle.views.proofs.Seen.{SeenBy-insert, SeenBy-empty}
use Rattle.sys_abi.specs.declared.identity.VPid.{VPid}
use Rattle.sys_abi.specs.declared.identity.RealPid.{RealPid}
use Rattle.sys_abi.specs.declared.maker.Maker.{Maker}
use Rattle.sys_abi.proofs.OrderLaws.{vpid_total, vpid_exact, real_pid_total, real_pid_exact}
use Rattle.proc_book.specs.Processes.{newborn}
use Rattle.proc_book.specs.Procs.{next_of, after_start}
use Rattle.plain_tables.specs.declared.process.Process.{Process}
use Rattle.plain_tables.specs.Ends.{child_process}
use Rattle.plain_tables.specs.Tables.{FIRST_PID, NOBODY, Processes, Makers, pid, has_thread_in}
use Rattle.virt_ids.specs.Pairs.{AreInverse}
use Rattle.host_tables.specs.Numbers.{Pids, Virts, real, node_of, IsNumberOf, AreNumbered, to_real, to_virt, number_on, to_real_thread, to_virt_thread}
use Rattle.host_tables.specs.Processes.{IsSame, SameProcess, SameProcesses}
use Rattle.host_tables.proofs.GrownTopics.{SameProcesses-grows}
use Rattle.host_tables.proofs.MorePairs.{more_pairs, real_here, real_kept, real_was, virt_kept}
use Rattle.host_tables.proofs.Ways.{lead_process, lead_thread}
use Rattle.host_processes.proofs.MoreNumbers.{AreNumbered-grows, AreNumbered-child}
use Rattle.rebuild_processes.specs.declared.numbered.Numbered.{Numbered}
use Rattle.rebuild_processes.specs.Making.{IsOwn, IsTold}
use Rattle.rebuild_processes.specs.Steps.{with_pair}
use Rattle.rebuild_processes.proofs.Paired.{ArePaired-new}

-- a number is still one of the processes
pub own_by : (a b : Processes) (w : ℕ) → ((q : VPid) → IsSome (map.get a q) → IsSome (map.get b q))
    → ((q : VPid) → has_thread_in w (map.get a q) ≡ true → has_thread_in w (map.get b q) ≡ true)
    → IsOwn a w → IsOwn b w
own_by a b w process thread own = elim own [
  | inl at ↦ inl (process (pid w) at)
  | inr at ↦ inr (at.0, thread at.0 at.1)
]

pub own_number : (node n : ℕ) → (if node == node then Some n else None) ≡ Some n
own_number node n = ap (λ b. if b then Some n else None) (eq-eqb node node refl)

module _ (nodes : List ℕ) (makers : Makers) (done : Processes) (old : Numbered)
    (told : IsTold nodes makers done old) (node v parent : ℕ)
    (new_v : map.get old.ids.pids v ≡ None)
    (new_r : map.get old.ids.virts (real node (next_of old.procs node)) ≡ None) (m : Maker)
    (maker : map.get makers (pid v) ≡ Some m) (on : node ≡ node_of nodes m.host) (first : FIRST_PID ≤ v)
    (there : node < length old.procs.next) (positive : 1 ≤ slice_index old.procs.next node)
    (below : (q : VPid) (x : Process) → map.get done q ≡ Some x → q.0 < v)
    (known : map.get old.ids.pids parent ≡ None → parent ≡ NOBODY) where
  abbrev pub born : RealPid
  born = real node (next_of old.procs node)

  abbrev pids' : Pids
  pids' = map.insert old.ids.pids v born

  abbrev virts' : Virts
  virts' = map.insert old.ids.virts born v

  abbrev pub begun : Numbered
  begun = record {
    procs = after_start old.procs node (map.get old.ids.pids parent);
    ids = with_pair old.ids v born;
  }

  inverse : AreInverse old.ids.pids old.ids.virts
  inverse = told.paired.inverse

  inverse' : AreInverse pids' virts'
  inverse' = more_pairs old.ids.pids old.ids.virts inverse v born new_v new_r

  here : map.get pids' v ≡ Some born
  here = real_here old.ids.pids old.ids.virts inverse v born new_v new_r

  not_above : (a b : ℕ) → a < b → a ≡ b → ⊥
  not_above a b less same = omega (arith, less, same)

  -- all other numbers of the node are lower

  last : (q : VPid) (x : Process) (s : RealPid) → map.get done q ≡ Some x → map.get pids' q.0 ≡ Some s
      → s.node ≡ node → s.pid < next_of old.procs node
  last q x s is leads same = elim (real_was old.ids.pids old.ids.virts inverse v born new_v new_r q.0 s leads) [
    | inl itself ↦ absurd (not_above q.0 v (below q x is) itself.0)
    | inr before ↦
        let low = (told.paired.handed_out q.0 s before.1).below in
        let at = ap (slice_index old.procs.next) same in
        omega (arith, low, at)
  ]

  numbered : AreNumbered nodes pids' (map.insert done (pid v) (child_process parent v)) makers
  numbered =
      subst (AreNumbered nodes pids' (map.insert done (pid v) (child_process parent v)))
      (insert_same vpid_total vpid_exact makers (pid v) m maker)
      (AreNumbered-child nodes pids' done makers
      (AreNumbered-grows nodes old.ids.pids pids' done makers told.numbered
      (real_kept old.ids.pids old.ids.virts inverse v born new_v new_r))
      v parent born m here on below last)

  -- the process and its thread

  its_parent : (o : Option RealPid) → map.get old.ids.pids parent ≡ o → IsNumberOf virts' NOBODY o parent
  its_parent None e = known e
  its_parent (Some s) e =
      virt_kept old.ids.pids old.ids.virts inverse v born new_v new_r s parent (inverse.leads_back parent s e)

  leads : to_real_thread pids' node v ≡ Some born.pid
  leads = ap (option_and_then (number_on node)) here ∙ own_number node born.pid

  its_thread : SeenBy {X = ℕ} {Y = ℕ} {R = nat_cmp} {S = nat_cmp} (to_real_thread pids' node)
      (to_virt_thread virts' node) IsSame (map.insert map.empty v 0) (map.insert map.empty born.pid 0)
  its_thread =
      SeenBy-insert nat_cmp_total nat_cmp-IsAntisymmetric nat_cmp_total nat_cmp-IsAntisymmetric
      (to_real_thread pids' node) (to_virt_thread virts' node) (lead_thread pids' virts' inverse' node) IsSame
      map.empty map.empty
      (SeenBy-empty nat_cmp nat_cmp (to_real_thread pids' node) (to_virt_thread virts' node) IsSame)
      v born.pid leads 0 0 refl

  processes : SameProcesses pids' virts' (map.insert done (pid v) (child_process parent v))
      (map.insert old.procs.processes born (newborn (map.get old.ids.pids parent) born.pid))
  processes =
      SeenBy-insert vpid_total vpid_exact real_pid_total real_pid_exact (to_real pids') (to_virt virts')
      (lead_process pids' virts' inverse') (SameProcess pids' virts') done old.procs.processes
      (SameProcesses-grows old.ids.pids old.ids.virts inverse v born new_v new_r done old.procs.processes
      told.processes)
      (pid v) born here (child_process parent v) (newborn (map.get old.ids.pids parent) born.pid)
      (record {
        life = refl;
        pending = refl;
        parent = its_parent (map.get old.ids.pids parent) refl;
        threads = its_thread;
      })

  -- the numbers

  absent : (o : Option Process) → map.get done (pid v) ≡ o → map.get done (pid v) ≡ None
  absent None e = e
  absent (Some x) e = absurd (not_above v v (below (pid v) x e) refl)

  beside : (q : VPid) (o : Option Process) → map.get done q ≡ o → IsSome o
      → map.get (map.insert done (pid v) (child_process parent v)) q ≡ o
  beside q None e some = true_false (sym some)
  beside q (Some x) e some =
      get_insert_other vpid_total vpid_exact done (pid v) (child_process parent v) q
      (λ same. not_above q.0 v (below q x e) (ap (λ (z : VPid). z.0) same))
      ∙ e

  there_by : (w : ℕ) (o : Option Process) → has_thread_in w o ≡ true → IsSome o
  there_by w None h = true_false (sym h)
  there_by w (Some x) h = refl

  own_more : (w : ℕ) → IsOwn done w → IsOwn (map.insert done (pid v) (child_process parent v)) w
  own_more w own =
      own_by done (map.insert done (pid v) (child_process parent v)) w
      (λ q at. ap is_some (beside q (map.get done q) refl at) ∙ at)
      (λ q at. ap (has_thread_in w) (beside q (map.get done q) refl (there_by w (map.get done q) at)) ∙ at) own

  numbers : (w : ℕ) (s : RealPid) → map.get pids' w ≡ Some s
      → IsOwn (map.insert done (pid v) (child_process parent v)) w
  numbers w s is = elim (real_was old.ids.pids old.ids.virts inverse v born new_v new_r w s is) [
    | inl itself ↦ inl (
        ap is_some (ap (λ n. map.get (map.insert done (pid v) (child_process parent v)) (pid n)) itself.0
        ∙ get_insert_same vpid_total vpid_exact done (pid v) (child_process parent v)))
    | inr before ↦ own_more w (told.numbers w s before.1)
  ]

  pub IsTold-begun : IsTold nodes makers (map.insert done (pid v) (child_process parent v)) begun
  IsTold-begun = record {
    paired = ArePaired-new old.ids.pids old.ids.virts old.procs.next v node told.paired first there positive
        new_v new_r;
    numbered = numbered;
    processes = processes;
    numbers = numbers;
    addresses = told.addresses;
    ports = told.ports;
  }
