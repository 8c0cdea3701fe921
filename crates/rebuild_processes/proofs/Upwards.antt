-- The processes below a number, with one more.
--     IsUpTo-next       all below the next number are there
--     IsMade-all        where no process has the number or a greater one, all are
--     gave_more, left_more      what each node has given out in two steps, and what it has left after one
use Rattle.std.proofs.Common.{◌≡◌, ◌≢◌, ℕ, ◌+◌, ◌^◌, ◌<◌, ◌≤◌, Option, Some, None, inl, inr, refl, sym, ap, ◌∙◌, subst, List, length, arith}
use Rattle.std.specs.Prelude.{slice_index}
use Rattle.std.specs.FinMap as map
use Rattle.std.proofs.Math.Nat.{eq-or-lt_of_le}
use Rattle.std.proofs.lemmas.Option.{none-some}
use Rattle.views.proofs.MapLaws.{same_or_other, get_insert_same, get_insert_other}
use Rattle.sys_abi.specs.declared.identity.VPid.{VPid}
use Rattle.sys_abi.specs.declared.identity.RealPid.{RealPid}
use Rattle.sys_abi.proofs.OrderLaws.{vpid_total, vpid_exact}
use Rattle.plain_tables.specs.declared.process.Process.{Process}
use Rattle.plain_tables.specs.Tables.{Processes, pid}
use Rattle.plain_machine.specs.declared.kernel.PlainKernel.{PlainKernel}
use Rattle.host_tables.specs.declared.kernel.Hosts.{Hosts}
use Rattle.rebuild_processes.specs.declared.numbered.Numbered.{Numbered}
use Rattle.rebuild_tables.specs.Hosts.{nodes_from}
use Rattle.rebuild_processes.specs.Making.{IsTold, IsFront, IsUpTo, IsAt, GaveOut, HasLeft}

module _ (all : Processes) (p : VPid) (x : Process) (is : map.get all p ≡ Some x) (done : Processes)
    (front : IsFront all p.0 done) where
  abbrev now : Processes
  now = map.insert done p x

  here : map.get now p ≡ Some x
  here = get_insert_same vpid_total vpid_exact done p x

  up : (a b : ℕ) → a ≡ b → a < b + 1
  up a b same = omega (arith, same)

  further : (a b : ℕ) → a < b → a < b + 1
  further a b less = omega (arith, less)

  at_most : (a b : ℕ) → a < b + 1 → a ≤ b
  at_most a b less = omega (arith, less)

  under : (q : VPid) → q ≢ p → q.0 < p.0 + 1 → q.0 < p.0
  under q differ less = elim (eq-or-lt_of_le (at_most q.0 p.0 less)) [
    | inl same ↦ absurd (differ (ap pid same))
    | inr lower ↦ lower
  ]

  pub front_next : IsFront all (p.0 + 1) now
  front_next = record {
    of = λ q y found. elim (same_or_other vpid_total vpid_exact q p) [
      | inl same ↦ (
        ap (map.get all) same ∙ is ∙ sym here ∙ ap (map.get now) (sym same) ∙ found,
        up q.0 p.0 (ap (λ (z : VPid). z.0) same),
      )
      | inr differ ↦
          let was = front.of q y (sym (get_insert_other vpid_total vpid_exact done p x q differ) ∙ found) in
          (was.0, further q.0 p.0 was.1)
    ];
    each = λ q y at less. elim (same_or_other vpid_total vpid_exact q p) [
      | inl same ↦ ap (map.get now) same ∙ here ∙ sym is ∙ ap (map.get all) (sym same) ∙ at
      | inr differ ↦
          get_insert_other vpid_total vpid_exact done p x q differ ∙ front.each q y at (under q differ less)
    ];
  }

pub IsUpTo-next : (h : Hosts) (k : PlainKernel) (p : VPid) (r : RealPid) (x : Process) (m : Numbered)
    → map.get k.processes p ≡ Some x → IsAt h k p r x m → IsUpTo h k (p.0 + 1) m
IsUpTo-next h k p r x m is at = record {
  done = map.insert at.done p x;
  front = front_next k.processes p x is at.done at.front;
  told = at.told;
  nodes = at.nodes;
  from = at.from;
}

module _ (h : Hosts) (k : PlainKernel) (n : ℕ) (m : Numbered) (up : IsUpTo h k n m)
    (last : (p : VPid) (x : Process) → map.get k.processes p ≡ Some x → p.0 < n) where
  same_by : (p : VPid) (o q : Option Process) → map.get up.done p ≡ o → map.get k.processes p ≡ q → o ≡ q
  same_by p None None e f = refl
  same_by p (Some x) q e f = sym (sym f ∙ (up.front.of p x e).0)
  same_by p None (Some x) e f = absurd (none-some x (sym e ∙ up.front.each p x f (last p x f)))

  pub all_done : up.done ≡ k.processes
  all_done =
      map.same_map vpid_total vpid_exact up.done k.processes
      (λ p. same_by p (map.get up.done p) (map.get k.processes p) refl refl)

  pub IsTold-all : IsTold (nodes_from h) k.makers k.processes m
  IsTold-all = subst (λ (ps : Processes). IsTold (nodes_from h) k.makers ps m) all_done up.told

pub gave_more : (a b : ℕ) (first second third : List ℕ) → length second ≡ length first → GaveOut a first second
    → GaveOut b second third → GaveOut (a + b) first third
gave_more a b first second third long gave gives node less =
    let one = gave node less in
    let two = gives node (subst (λ l. node < l) (sym long) less) in
    omega (arith, one, two)

pub left_more : (a b : ℕ) (first second : List ℕ) → length second ≡ length first → GaveOut a first second
    → HasLeft (a + b) first → HasLeft b second
left_more a b first second long gave left node less =
    let before = subst (λ l. node < l) long less in
    let one = gave node before in
    let two = left node before in
    together (slice_index first node) (slice_index second node) a b (2 ^ 32) one two
  where
    together : (x y a b most : ℕ) → y ≤ x + a → x + (a + b) ≤ most → y + b ≤ most
    together x y a b most one two = omega (arith, one, two)
