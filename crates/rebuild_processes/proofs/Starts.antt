-- A process more, after all those below it.
--     its_maker, host_there, node_is      the host of a process, and its node
--     IsAt-begun                          the tables have the processes below it, and it with one thread
use Rattle.std.proofs.Common.{◌≡◌, ℕ, zero, suc, ◌+◌, ◌<◌, ◌≤◌, ◌^◌, true, Option, Some, None, inl, inr, refl, sym, ap, ◌∙◌, subst, length, arith}
use Rattle.std.specs.Prelude.{is_some, IsSome, slice_index, map as each}
use Rattle.std.specs.List.{range_with_len}
use Rattle.std.specs.Option.{option_map_or}
use Rattle.std.specs.FinMap as map
use Rattle.std.specs.Cmp.{nat_cmp_total}
use Rattle.std.specs.FinMap.{nat_cmp-IsAntisymmetric}
use Rattle.std.proofs.lemmas.List.{length-set}
use Rattle.views.proofs.MapLaws.{true_false, get_insert_same}
use Rattle.sys_abi.specs.declared.identity.VPid.{VPid}
use Rattle.sys_abi.specs.declared.identity.RealPid.{RealPid}
use Rattle.sys_abi.specs.declared.maker.Maker.{Maker}
use Rattle.sys_abi.specs.declared.life.Life.{Life}
use Rattle.sys_abi.specs.declared.life.Life.TheVariants.{Live, Zombie}
use Rattle.proc_book.specs.Procs.{ProcTable, next_of, after_start}
use Rattle.plain_tables.specs.declared.process.Process.{Process}
use Rattle.plain_tables.specs.Ends.{child_process}
use Rattle.plain_tables.specs.Tables.{NOBODY, pid, is_live_process}
use Rattle.plain_tables.specs.Valid.Processes.{HasParent, IsParent}
use Rattle.plain_machine.specs.declared.kernel.PlainKernel.{PlainKernel}
use Rattle.plain_machine.specs.Kernel.{host_of}
use Rattle.plain_machine.specs.Kernels.{IsKernel}
use Rattle.host_tables.specs.declared.kernel.Hosts.{Hosts}
use Rattle.host_tables.specs.Numbers.{real, node_of}
use Rattle.host_tables.proofs.LookUps.{some_value}
use Rattle.rebuild_processes.specs.declared.numbered.Numbered.{Numbered}
use Rattle.rebuild_tables.specs.Hosts.{node_at, nodes_from}
use Rattle.rebuild_processes.specs.Making.{IsUpTo, IsAt, GaveOut, HasLeft}
use Rattle.rebuild_processes.specs.Steps.{with_pair, HasBegun}
use Rattle.rebuild_processes.proofs.Begun.{IsTold-begun}
use Rattle.rebuild_processes.proofs.Paired.{positive_at, IsFrom-new, gave_one}

at_range : (f : ℕ → ℕ) (a n i : ℕ) → i < n → slice_index (each f (range_with_len a n)) i ≡ f (a + i)
at_range f a zero i less = absurd (omega (arith, less))
at_range f a (suc n) zero less = ap f (omega arith)
at_range f a (suc n) (suc i) less = at_range f (a + 1) n i (omega (arith, less)) ∙ ap f (omega arith)

pub node_is : (h : Hosts) (host : ℕ) → host < 16 → node_at h host ≡ node_of (nodes_from h) host
node_is h host less = sym (at_range (node_at h) 0 16 host less ∙ ap (node_at h) (none_more host))
  where
    none_more : (n : ℕ) → 0 + n ≡ n
    none_more n = omega arith

live_there : (o : Option Process) → is_live_process o ≡ true → IsSome o
live_there None alive = true_false (sym alive)
live_there (Some x) alive = refl

module _ (h : Hosts) (k : PlainKernel) (whole : IsKernel k) (p : VPid) (x : Process)
    (is : map.get k.processes p ≡ Some x) where
  pub its_maker : (m : Maker) × (map.get k.makers p ≡ Some m)
  its_maker = some_value (map.get k.makers p) (whole.makers.same p ∙ ap is_some is)

  pub host_is : host_of k p ≡ its_maker.0.host
  host_is = ap (λ o. option_map_or (λ (m : Maker). m.host) o 0) its_maker.1

  pub host_there : host_of k p < 16
  host_there = subst (λ n. n < 16) (sym host_is) (whole.makers.hosts p its_maker.0 its_maker.1)

  -- a parent is there before its child

  module _ (m : Numbered) (before : IsUpTo h k p.0 m) where
    parent_paired : (parent : ℕ) → IsParent k.processes k.makers p parent → IsSome (map.get m.ids.pids parent)
    parent_paired parent of =
        let z = some_value (map.get k.processes (pid parent)) (live_there _ of.alive) in
        before.told.numbered.process (pid parent) z.0 (before.front.each (pid parent) z.0 z.1 of.below)

    not_none : (parent : ℕ) → IsSome (map.get m.ids.pids parent) → map.get m.ids.pids parent ≡ None → ⊥
    not_none parent some none = true_false (sym some ∙ ap is_some none)

    known_by : (life : Life) (parent : ℕ) → HasParent k.processes k.makers p parent life
        → map.get m.ids.pids parent ≡ None → parent ≡ NOBODY
    known_by Live parent has none = elim has [
      | inl nobody ↦ nobody
      | inr of ↦ absurd (not_none parent (parent_paired parent of) none)
    ]
    known_by (Zombie status) parent has none = absurd (not_none parent (parent_paired parent has.0) none)

    pub known : map.get m.ids.pids x.parent ≡ None → x.parent ≡ NOBODY
    known = known_by x.life x.parent (whole.parents.each p x is)

-- the step

module _ (h : Hosts) (k : PlainKernel) (whole : IsKernel k) (p : VPid) (x : Process)
    (is : map.get k.processes p ≡ Some x) (old new : Numbered) (before : IsUpTo h k p.0 old) (node : ℕ)
    (on : node ≡ node_at h (host_of k p)) (below : node < h.nodes) (r : RealPid)
    (begun : HasBegun node p.0 x.parent r old new) where
  there : node < length old.procs.next
  there = subst (λ n. node < n) (sym before.nodes) below

  abbrev next : RealPid
  next = real node (next_of old.procs node)

  new_r : map.get old.ids.virts next ≡ None
  new_r = ap (map.get old.ids.virts) (sym begun.own) ∙ begun.fresh.back

  its_node : node ≡ node_of (nodes_from h) (its_maker h k whole p x is).0.host
  its_node =
      on ∙ ap (node_at h) (host_is h k whole p x is)
      ∙ node_is h (its_maker h k whole p x is).0.host
      (whole.makers.hosts p (its_maker h k whole p x is).0 (its_maker h k whole p x is).1)

  abbrev made : Numbered
  made = record {
    procs = after_start old.procs node (map.get old.ids.pids x.parent);
    ids = with_pair old.ids p.0 next;
  }

  positive : 1 ≤ slice_index old.procs.next node
  positive = positive_at h.pid_base old.ids.pids old.procs.next before.from node there

  at_next : IsAt h k p next (child_process x.parent p.0) made
  at_next = record {
    done = before.done;
    front = before.front;
    told = IsTold-begun (nodes_from h) k.makers before.done old before.told node p.0 x.parent begun.fresh.virt
        new_r (its_maker h k whole p x is).0 (its_maker h k whole p x is).1 its_node
        (whole.processes.each p x is).number.0 there positive (λ q y found. (before.front.of q y found).1)
        (known h k whole p x is old before);
    nodes = length-set old.procs.next node (next_of old.procs node + 1) ∙ before.nodes;
    from = IsFrom-new old.ids.pids old.ids.virts old.procs.next p.0 node before.told.paired
        (whole.processes.each p x is).number.0 there positive begun.fresh.virt new_r h.pid_base before.from;
    paired = get_insert_same nat_cmp_total nat_cmp-IsAntisymmetric old.ids.pids p.0 next;
  }

  made_is : made ≡ new
  made_is = λ i. record {
    procs = sym begun.procs i;
    ids = (ap (with_pair old.ids p.0) (sym begun.own) ∙ sym begun.ids) i;
  }

  pub IsAt-begun : IsAt h k p r (child_process x.parent p.0) new
  IsAt-begun =
      subst (IsAt h k p r (child_process x.parent p.0)) made_is
      (subst (λ s. IsAt h k p s (child_process x.parent p.0) made) (sym begun.own) at_next)

  pub gave : GaveOut 1 old.procs.next new.procs.next
  gave n less =
      subst (λ (m : ProcTable). slice_index m.next n ≤ slice_index old.procs.next n + 1) (sym begun.procs)
      (gave_one old.procs.next node there n)

-- room for one more
pub room_at : (h : Hosts) (k : PlainKernel) (n : ℕ) (m : Numbered) → IsUpTo h k n m → HasLeft 1 m.procs.next
    → (node : ℕ) → node < h.nodes → (node < length m.procs.next) × (next_of m.procs node < 2 ^ 32)
room_at h k n m before left node below =
    let there : node < length m.procs.next = subst (λ l. node < l) (sym before.nodes) below in
    (there, less (left node there))
  where
    less : {a : ℕ} → a + 1 ≤ 2 ^ 32 → a < 2 ^ 32
    less more = omega (arith, more)
