-- All threads of a process that lives, one after the other, and then its own signals.
--     IsWalked h k p r x next left m      its threads that are not left are there
--     walked_none, walked_more, walked_all      none but that of its own number;  one more;  all of them
--     walked_thread, walked_left          what the next one needs
--     filled_can, filled_pends, IsAt-filled     the signals of the process itself
use Rattle.std.proofs.Common.{◌≡◌, ℕ, suc, ◌+◌, ◌^◌, ◌<◌, ◌≤◌, true, List, [], ◌∷◌, Option, Some, None, inl, inr, refl, sym, ap, ◌∙◌, subst, length, arith}
use Rattle.std.specs.Prelude.{slice_index}
use Rattle.std.specs.Cmp.{nat_cmp_total}
use Rattle.std.specs.Ordering.{nat_cmp}
use Rattle.std.specs.FinMap as map
use Rattle.std.specs.FinMap.{nat_cmp-IsAntisymmetric}
use Rattle.std.proofs.lemmas.Option.{none-some}
use Rattle.views.proofs.MapLaws.{get_insert_same, insert_insert}
use Rattle.views.specs.Limits.{THREAD_LIMIT}
use Rattle.sys_abi.specs.declared.identity.VPid.{VPid}
use Rattle.sys_abi.specs.declared.identity.RealPid.{RealPid}
use Rattle.sys_abi.specs.declared.life.Life.{Life}
use Rattle.sys_abi.specs.declared.life.Life.TheVariants.{Live}
use Rattle.sys_abi.proofs.OrderLaws.{vpid_total, vpid_exact}
use Rattle.proc_book.specs.Procs.{can_raise, pending_of}
use Rattle.virt_ids.specs.Changes.{at_key}
use Rattle.plain_tables.specs.declared.process.Process.{Process}
use Rattle.plain_tables.specs.Tables.{Processes}
use Rattle.plain_tables.specs.Valid.Processes.{FitsLife}
use Rattle.plain_machine.specs.declared.kernel.PlainKernel.{PlainKernel}
use Rattle.plain_machine.specs.Kernels.{IsKernel}
use Rattle.host_tables.specs.declared.kernel.Hosts.{Hosts}
use Rattle.rebuild_tables.specs.Hosts.{nodes_from}
use Rattle.rebuild_processes.specs.declared.numbered.Numbered.{Numbered}
use Rattle.rebuild_processes.specs.Making.{with_set, IsTold, IsAt, IsThreaded, GaveOut, HasLeft}
use Rattle.rebuild_processes.proofs.Rests.{IsRest, rest_all, rest_first, rest_head, rest_next, rest_none, nat_rises}
use Rattle.rebuild_processes.proofs.Sets.{with_table, process_can, process_pends, IsTold-process_set}
use Rattle.rebuild_processes.proofs.Upwards.{gave_more}

abbrev own_key : ℕ → ℕ
own_key t = t

-- from the numbers that each node began with, no more were given out than threads are there
pub record IsWalked (h : Hosts) (k : PlainKernel) (p : VPid) (r : RealPid) (x : Process) (next : List ℕ)
    (left : List (ℕ × ℕ)) (m : Numbered) : Type 0 where
  pub n : ℕ
  pub passed : ℕ
  pub made : IsThreaded h k p r x n m
  pub rest : IsRest {R = nat_cmp} own_key x.threads n left
  pub gave : GaveOut passed next m.procs.next
  pub count : passed + length left ≡ map.len x.threads
  pub nodes : length next ≡ h.nodes

module _ (h : Hosts) (k : PlainKernel) (p : VPid) (r : RealPid) (x : Process) where
  begun : (next : List ℕ) (m : Numbered) → IsThreaded h k p r x 0 m → m.procs.next ≡ next
      → IsWalked h k p r x next (map.entries x.threads) m
  begun next m made same = record {
    n = 0;
    passed = 0;
    made = made;
    rest = rest_all nat_cmp_total nat_cmp-IsAntisymmetric own_key nat_rises x.threads;
    gave = λ node less. subst (λ (ns : List ℕ). slice_index ns node ≤ slice_index next node + 0) (sym same)
        (no_more (slice_index next node));
    count = none_passed (length (map.entries x.threads)) ∙ sym (map.len-entries x.threads);
    nodes = ap (λ (ns : List ℕ). length ns) (sym same) ∙ made.at.nodes;
  }
    where
      no_more : (a : ℕ) → a ≤ a + 0
      no_more a = omega arith

      none_passed : (a : ℕ) → 0 + a ≡ a
      none_passed a = omega arith

  pub walked_none : (next : List ℕ) (front : List (ℕ × ℕ)) (m : Numbered) → front ≡ map.entries x.threads
      → IsThreaded h k p r x 0 m → m.procs.next ≡ next → IsWalked h k p r x next front m
  walked_none next front m all made same =
      subst (λ es. IsWalked h k p r x next es m) (sym all) (begun next m made same)

  module _ (next : List ℕ) (front left : List (ℕ × ℕ)) (t set : ℕ) (starts : front ≡ (t, set) ∷ left)
      (m : Numbered) (so_far : IsWalked h k p r x next front m) where
    walked : IsWalked h k p r x next ((t, set) ∷ left) m
    walked = subst (λ es. IsWalked h k p r x next es m) starts so_far

    pub walked_there : map.get x.threads t ≡ Some set
    walked_there =
        (rest_first nat_cmp_total nat_cmp-IsAntisymmetric own_key nat_rises x.threads walked.n t set left
        walked.rest).0

    head : IsRest {R = nat_cmp} own_key x.threads t ((t, set) ∷ left)
    head = rest_head nat_cmp_total nat_cmp-IsAntisymmetric own_key nat_rises x.threads walked.n t set left
        walked.rest

    not_below : (u : ℕ) → u < t → t ≤ u → ⊥
    not_below u less more = omega (arith, less, more)

    lower : (u s : ℕ) → map.get x.threads u ≡ Some s → u < t → u < walked.n
    lower u s found less = elim (walked.rest.each u s found) [
      | inl below ↦ below
      | inr here ↦ absurd (not_below u less (head.of u s here).1)
    ]

    pub walked_thread : IsThreaded h k p r x t m
    walked_thread = record {
      threads = walked.made.threads;
      of = walked.made.of;
      each = λ u s found place. walked.made.each u s found (elim place [
        | inl less ↦ inl (lower u s found less)
        | inr own ↦ inr own
      ]);
      at = walked.made.at;
    }

    same_nodes : length m.procs.next ≡ length next
    same_nodes = walked.made.at.nodes ∙ sym walked.nodes

    pub walked_left : map.len x.threads ≤ THREAD_LIMIT → HasLeft 64 next → HasLeft 1 m.procs.next
    walked_left few room node less =
        let there : node < length next = subst (λ l. node < l) same_nodes less in
        together (slice_index next node) (slice_index m.procs.next node) walked.passed (length left)
        (map.len x.threads) (2 ^ 32) (walked.gave node there) (room node there) walked.count few
      where
        together : (a b passed rest all most : ℕ) → b ≤ a + passed → a + 64 ≤ most → passed + suc rest ≡ all
            → all ≤ 64 → b + 1 ≤ most
        together a b passed rest all most gave room count few = omega (arith, gave, room, count, few)

    pub walked_more : (m' : Numbered) → IsThreaded h k p r x (t + 1) m' → GaveOut 1 m.procs.next m'.procs.next
        → IsWalked h k p r x next left m'
    walked_more m' made gave = record {
      n = t + 1;
      passed = walked.passed + 1;
      made = made;
      rest = rest_next nat_cmp_total nat_cmp-IsAntisymmetric own_key nat_rises x.threads walked.n t set left
          walked.rest;
      gave = gave_more walked.passed 1 next m.procs.next m'.procs.next same_nodes walked.gave gave;
      count = one_passed walked.passed (length left) ∙ walked.count;
      nodes = walked.nodes;
    }
      where
        one_passed : (a b : ℕ) → a + 1 + b ≡ a + suc b
        one_passed a b = omega arith

  -- all of them

  module _ (next : List ℕ) (front : List (ℕ × ℕ)) (none : front ≡ []) (m : Numbered)
      (so_far : IsWalked h k p r x next front m) where
    complete : IsWalked h k p r x next [] m
    complete = subst (λ es. IsWalked h k p r x next es m) none so_far

    below : (t set : ℕ) → map.get x.threads t ≡ Some set → t < complete.n
    below t set is =
        rest_none nat_cmp_total nat_cmp-IsAntisymmetric own_key nat_rises x.threads complete.n complete.rest t
        set is

    same_by : (t : ℕ) (o q : Option ℕ) → map.get complete.made.threads t ≡ o → map.get x.threads t ≡ q → o ≡ q
    same_by t None None e f = refl
    same_by t (Some s) q e f = sym (sym f ∙ complete.made.of t s e)
    same_by t None (Some s) e f =
        absurd (none-some s (sym e ∙ complete.made.each t s f (inl (below t s f))))

    all_there : complete.made.threads ≡ x.threads
    all_there =
        map.same_map nat_cmp_total nat_cmp-IsAntisymmetric complete.made.threads x.threads
        (λ t. same_by t (map.get complete.made.threads t) (map.get x.threads t) refl refl)

    pub walked_all : x.life ≡ Live → IsAt h k p r (record x { pending = 0 }) m
    walked_all live =
        subst (λ (y : Process). IsAt h k p r y m) (λ i. record {
          parent = x.parent;
          life = sym live i;
          pending = 0;
          threads = all_there i;
        }) complete.made.at

    pub walked_gave : map.len x.threads ≤ THREAD_LIMIT → GaveOut 64 next m.procs.next
    walked_gave few node less =
        together (slice_index next node) (slice_index m.procs.next node) complete.passed (map.len x.threads)
        (complete.gave node less) complete.count few
      where
        together : (a b passed all : ℕ) → b ≤ a + passed → passed + 0 ≡ all → all ≤ 64 → b ≤ a + 64
        together a b passed all gave count few = omega (arith, gave, count, few)

-- a live process has no more threads than it may

pub few_threads : (k : PlainKernel) → IsKernel k → (p : VPid) (x : Process) → map.get k.processes p ≡ Some x
    → x.life ≡ Live → map.len x.threads ≤ THREAD_LIMIT
few_threads k whole p x is live =
    (subst (λ (life : Life). FitsLife life x.threads x.pending) live (whole.processes.each p x is).life).1

-- the signals of the process itself

module _ (h : Hosts) (k : PlainKernel) (p : VPid) (r : RealPid) (x : Process) (m : Numbered)
    (at : IsAt h k p r (record x { pending = 0 }) m) where
  abbrev bare : Process
  bare = record x { pending = 0 }

  there : map.get (map.insert at.done p bare) p ≡ Some bare
  there = get_insert_same vpid_total vpid_exact at.done p bare

  pub filled_can : x.life ≡ Live → can_raise m.procs.processes r None ≡ true
  filled_can live =
      process_can (nodes_from h) k.makers (map.insert at.done p bare) m at.told p r at.paired bare there live

  pub filled_pends : pending_of None (map.get m.procs.processes r) ≡ 0
  filled_pends =
      process_pends (nodes_from h) k.makers (map.insert at.done p bare) m at.told p r at.paired bare there
      refl

  abbrev pub filled : Numbered
  filled = with_table m (at_key m.procs.processes r (with_set None x.pending))

  pub IsAt-filled : IsAt h k p r x filled
  IsAt-filled = record {
    done = at.done;
    front = at.front;
    told = subst (λ (ps : Processes). IsTold (nodes_from h) k.makers ps filled)
        (insert_insert vpid_total vpid_exact at.done p bare x)
        (IsTold-process_set (nodes_from h) k.makers (map.insert at.done p bare) m at.told p r at.paired bare
        there x.pending);
    nodes = at.nodes;
    from = at.from;
    paired = at.paired;
  }
