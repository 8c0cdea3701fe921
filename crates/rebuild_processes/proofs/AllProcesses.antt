-- All processes of a kernel part, one after the other.
--     IsRebuilt h k left m      those that are not left are there
--     rebuilt_none, rebuilt_more, rebuilt_all      none;  one more;  all of them
--     rebuilt_there, rebuilt_before, rebuilt_left      what the next one needs
use Rattle.std.proofs.Common.{◌≡◌, ℕ, suc, ◌+◌, ◌-◌, ◌*◌, ◌<◌, ◌≤◌, List, [], ◌∷◌, Some, inl, inr, refl, sym, ap, ◌∙◌, subst, length, arith, Less}
use Rattle.std.specs.Prelude.{is_some, true, slice_index, replicate}
use Rattle.std.specs.Ordering.{nat_cmp}
use Rattle.std.specs.FinMap as map
use Rattle.std.proofs.lemmas.Option.{none-some}
use Rattle.std.proofs.lemmas.List.{get_or-replicate, length-replicate}
use Rattle.views.proofs.MapLaws.{true_false}
use Rattle.views.proofs.Seen.{SeenBy-empty}
use Rattle.sys_abi.specs.declared.identity.VPid.{VPid}
use Rattle.sys_abi.specs.declared.identity.RealPid.{RealPid}
use Rattle.sys_abi.specs.Orders.{vpid_cmp, real_pid_cmp}
use Rattle.sys_abi.proofs.OrderLaws.{vpid_total, vpid_exact}
use Rattle.proc_book.specs.Procs.{ProcTable}
use Rattle.virt_ids.specs.Pairs.{Pairs}
use Rattle.plain_tables.specs.declared.process.Process.{Process}
use Rattle.plain_tables.specs.Tables.{Makers}
use Rattle.plain_machine.specs.declared.kernel.PlainKernel.{PlainKernel}
use Rattle.plain_machine.specs.Kernels.{IsKernel}
use Rattle.host_tables.specs.declared.kernel.Hosts.{Hosts}
use Rattle.host_tables.specs.Numbers.{to_real, to_virt}
use Rattle.host_tables.specs.Processes.{SameProcess}
use Rattle.rebuild_tables.specs.Hosts.{IsHosts, nodes_from}
use Rattle.rebuild_processes.specs.declared.numbered.Numbered.{Numbered}
use Rattle.rebuild_processes.specs.Making.{IsTold, IsUpTo, IsMade, GaveOut, HasLeft}
use Rattle.rebuild_processes.proofs.Rests.{IsRest, rest_all, rest_first, rest_head, rest_next, rest_none, nat_rises}
use Rattle.rebuild_processes.proofs.Upwards.{IsTold-all}

abbrev its_number : VPid → ℕ
its_number p = p.0

vpid_rises : (a b : VPid) → vpid_cmp a b ≡ Less → a.0 < b.0
vpid_rises a b is = nat_rises a.0 b.0 is

-- each process takes 65 numbers at most, its own and those of 64 threads
pub record IsRebuilt (h : Hosts) (k : PlainKernel) (left : List (VPid × Process)) (m : Numbered) : Type 0 where
  pub n : ℕ
  pub passed : ℕ
  pub up : IsUpTo h k n m
  pub rest : IsRest its_number k.processes n left
  pub most : (node : ℕ) → node < length m.procs.next
      → slice_index m.procs.next node ≤ h.pid_base + 65 * passed
  pub count : passed + length left ≡ map.len k.processes

-- before the first

module _ (nodes : List ℕ) (makers : Makers) (next : List ℕ) where
  abbrev bare : Numbered
  bare = record {
    procs = record { processes = map.empty; next = next };
    ids = record { pids = map.empty; virts = map.empty; addresses = map.empty; ports = map.empty };
  }

  no_process : {A : Type 0} (p : VPid) (x : Process) → map.get (map.empty {R = vpid_cmp}) p ≡ Some x → A
  no_process p x is = absurd (none-some x (sym (map.get-empty {X = Process} vpid_cmp p) ∙ is))

  pub no_pair : {A : Type 0} (v : ℕ) (r : RealPid) → map.get (map.empty {R = nat_cmp}) v ≡ Some r → A
  no_pair v r is = absurd (none-some r (sym (map.get-empty {X = RealPid} nat_cmp v) ∙ is))

  no_back : {A : Type 0} (v : ℕ) (r : RealPid) → map.get (map.empty {R = real_pid_cmp}) r ≡ Some v → A
  no_back v r is = absurd (none-some v (sym (map.get-empty {X = ℕ} real_pid_cmp r) ∙ is))

  no_one : {A : Type 0} (p : VPid) → is_some (map.get (map.empty {X = Process} {R = vpid_cmp}) p) ≡ true → A
  no_one p has = true_false (sym has ∙ ap is_some (map.get-empty {X = Process} vpid_cmp p))

  pub IsTold-none : IsTold nodes makers map.empty bare
  IsTold-none = record {
    paired = record {
      inverse = record { leads_back = λ v r is. no_pair v r is; leads_there = λ v r is. no_back v r is };
      handed_out = λ v r is. no_pair v r is;
      next_is = refl;
    };
    numbered = record {
      process = λ p x is. no_process p x is;
      thread = λ p x t is has. no_process p x is;
      node = λ p x m r is maker leads. no_process p x is;
      thread_node = λ p x t r s is has leads its. no_process p x is;
      order = λ p q r s has other host leads its less. no_one p has;
    };
    processes = SeenBy-empty vpid_cmp real_pid_cmp (to_real map.empty) (to_virt map.empty)
        (SameProcess map.empty map.empty);
    numbers = λ v r is. no_pair v r is;
    addresses = refl;
    ports = refl;
  }

module _ (h : Hosts) (k : PlainKernel) (hosts : IsHosts h) where
  abbrev first : List ℕ
  first = replicate h.nodes h.pid_base

  at_base : (node : ℕ) → node < length first → slice_index first node ≡ h.pid_base
  at_base node less =
      get_or-replicate h.nodes node h.pid_base 0
      (subst (λ n. node < n) (length-replicate h.nodes h.pid_base) less)

  begun : IsRebuilt h k (map.entries k.processes) (bare (nodes_from h) k.makers first)
  begun = record {
    n = 0;
    passed = 0;
    up = record {
      done = map.empty;
      front = record {
        of = λ p x is. no_process (nodes_from h) k.makers first p x is;
        each = λ p x is less. absurd (none_below p.0 less);
      };
      told = IsTold-none (nodes_from h) k.makers first;
      nodes = length-replicate h.nodes h.pid_base;
      from = record {
        positive = hosts.first;
        next_from = λ node less. from_base (slice_index first node) h.pid_base (at_base node less);
        given = λ v r is. no_pair (nodes_from h) k.makers first v r is;
      };
    };
    rest = rest_all vpid_total vpid_exact its_number vpid_rises k.processes;
    most = λ node less. to_base (slice_index first node) h.pid_base (at_base node less);
    count = none_passed (length (map.entries k.processes)) ∙ sym (map.len-entries k.processes);
  }
    where
      none_below : (n : ℕ) → n < 0 → ⊥
      none_below n less = omega (arith, less)

      from_base : (a b : ℕ) → a ≡ b → b ≤ a
      from_base a b same = omega (arith, same)

      to_base : (a b : ℕ) → a ≡ b → a ≤ b + 65 * 0
      to_base a b same = omega (arith, same)

      none_passed : (a : ℕ) → 0 + a ≡ a
      none_passed a = omega arith

  pub rebuilt_none : (front : List (VPid × Process)) (procs : ProcTable) (ids : Pairs)
      → front ≡ map.entries k.processes → procs ≡ record { processes = map.empty; next = first }
      → ids ≡ record { pids = map.empty; virts = map.empty; addresses = map.empty; ports = map.empty }
      → IsRebuilt h k front (record { procs = procs; ids = ids })
  rebuilt_none front procs ids all procs_are ids_are =
      subst (λ es. IsRebuilt h k es (record { procs = procs; ids = ids })) (sym all)
      (subst (λ (t : ProcTable). IsRebuilt h k (map.entries k.processes) (record { procs = t; ids = ids }))
      (sym procs_are)
      (subst (λ (t : Pairs). IsRebuilt h k (map.entries k.processes)
      (record { procs = record { processes = map.empty; next = first }; ids = t })) (sym ids_are) begun))

  -- one more

  module _ (front left : List (VPid × Process)) (p : VPid) (x : Process) (starts : front ≡ (p, x) ∷ left)
      (m : Numbered) (so_far : IsRebuilt h k front m) where
    rebuilt : IsRebuilt h k ((p, x) ∷ left) m
    rebuilt = subst (λ es. IsRebuilt h k es m) starts so_far

    pub rebuilt_there : map.get k.processes p ≡ Some x
    rebuilt_there =
        (rest_first vpid_total vpid_exact its_number vpid_rises k.processes rebuilt.n p x left rebuilt.rest).0

    head : IsRest its_number k.processes p.0 ((p, x) ∷ left)
    head = rest_head vpid_total vpid_exact its_number vpid_rises k.processes rebuilt.n p x left rebuilt.rest

    from_n : rebuilt.n ≤ p.0
    from_n =
        (rest_first vpid_total vpid_exact its_number vpid_rises k.processes rebuilt.n p x left rebuilt.rest).1

    not_below : (a b : ℕ) → a < b → b ≤ a → ⊥
    not_below a b less more = omega (arith, less, more)

    higher : (a b c : ℕ) → a < b → b ≤ c → a < c
    higher a b c less more = omega (arith, less, more)

    lower : (q : VPid) (y : Process) → map.get k.processes q ≡ Some y → q.0 < p.0 → q.0 < rebuilt.n
    lower q y found less = elim (rebuilt.rest.each q y found) [
      | inl below ↦ below
      | inr here ↦ absurd (not_below q.0 p.0 less (head.of q y here).1)
    ]

    pub rebuilt_before : IsUpTo h k p.0 m
    rebuilt_before = record {
      done = rebuilt.up.done;
      front = record {
        of = λ q y found.
            let was = rebuilt.up.front.of q y found in
            (was.0, higher q.0 rebuilt.n p.0 was.1 from_n);
        each = λ q y found less. rebuilt.up.front.each q y found (lower q y found less);
      };
      told = rebuilt.up.told;
      nodes = rebuilt.up.nodes;
      from = rebuilt.up.from;
    }

    pub rebuilt_left : IsKernel k → HasLeft 65 m.procs.next
    rebuilt_left whole node less =
        together (slice_index m.procs.next node) h.pid_base rebuilt.passed (length left) (map.len k.processes)
        (rebuilt.most node less) hosts.last rebuilt.count whole.processes.count
      where
        together : (a base passed rest all : ℕ) → a ≤ base + 65 * passed → base ≤ 1000000000
            → passed + suc rest ≡ all → all ≤ 128 → a + 65 ≤ 4294967296
        together a base passed rest all most last count few = omega (arith, most, last, count, few)

    pub rebuilt_more : (m' : Numbered) → IsUpTo h k (p.0 + 1) m' → GaveOut 65 m.procs.next m'.procs.next
        → IsRebuilt h k left m'
    rebuilt_more m' up gave = record {
      n = p.0 + 1;
      passed = rebuilt.passed + 1;
      up = up;
      rest = rest_next vpid_total vpid_exact its_number vpid_rises k.processes rebuilt.n p x left rebuilt.rest;
      most = λ node less.
          let there : node < length m.procs.next =
          subst (λ l. node < l) (up.nodes ∙ sym rebuilt.up.nodes) less in
          together (slice_index m.procs.next node) (slice_index m'.procs.next node) h.pid_base rebuilt.passed
          (gave node there) (rebuilt.most node there);
      count = one_passed rebuilt.passed (length left) ∙ rebuilt.count;
    }
      where
        together : (a b base passed : ℕ) → b ≤ a + 65 → a ≤ base + 65 * passed → b ≤ base + 65 * (passed + 1)
        together a b base passed gave most = omega (arith, gave, most)

        one_passed : (a b : ℕ) → a + 1 + b ≡ a + suc b
        one_passed a b = omega arith

  -- all of them

  all_made : (m : Numbered) → IsKernel k → IsRebuilt h k [] m → IsMade h k m
  all_made m whole rebuilt = record {
    told = IsTold-all h k rebuilt.n m rebuilt.up
        (rest_none vpid_total vpid_exact its_number vpid_rises k.processes rebuilt.n rebuilt.rest);
    from = rebuilt.up.from;
    nodes = rebuilt.up.nodes;
    room = λ node less. room (slice_index m.procs.next node) h.pid_base rebuilt.passed (map.len k.processes)
        k.next_id (rebuilt.most node less) hosts.last rebuilt.count whole.processes.count;
    spare = λ node less. spare (slice_index m.procs.next node) h.pid_base rebuilt.passed (map.len k.processes)
        k.next_id (rebuilt.most node less) hosts.last rebuilt.count whole.processes.count;
  }
    where
      room : (a base passed all n : ℕ) → a ≤ base + 65 * passed → base ≤ 1000000000 → passed + 0 ≡ all
          → all ≤ 128 → a + (2147483647 - n) ≤ 4294967296
      room a base passed all n most last count few = omega (arith, most, last, count, few)

      spare : (a base passed all n : ℕ) → a ≤ base + 65 * passed → base ≤ 1000000000 → passed + 0 ≡ all
          → all ≤ 128 → a + 8320 + (2147483647 - n) ≤ 4294967296
      spare a base passed all n most last count few = omega (arith, most, last, count, few)

  pub rebuilt_all : (front : List (VPid × Process)) (m : Numbered) → front ≡ [] → IsKernel k
      → IsRebuilt h k front m → IsMade h k m
  rebuilt_all front m none whole so_far = all_made m whole (subst (λ es. IsRebuilt h k es m) none so_far)
