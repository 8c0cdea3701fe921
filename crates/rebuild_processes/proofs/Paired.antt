-- One pair more, of a number that is not paired yet and the next one of a node.
--     ArePaired-new      the pairs are as they should be
--     IsFrom-new         and each real number is from the base on
--     positive_at        no node hands out 0
use Rattle.std.proofs.Common.{◌≡◌, ◌≢◌, ℕ, ◌+◌, ◌<◌, ◌≤◌, None, inl, inr, refl, sym, ap, ◌∙◌, subst, List, length, arith}
use Rattle.std.specs.Prelude.{slice_index, slice_set}
use Rattle.std.specs.Cmp.{nat_cmp_total}
use Rattle.std.specs.FinMap as map
use Rattle.std.specs.FinMap.{nat_cmp-IsAntisymmetric}
use Rattle.std.proofs.lemmas.List.{get_or-set_same, get_or-set_other, length-set}
use Rattle.views.proofs.MapLaws.{same_or_other}
use Rattle.sys_abi.specs.declared.identity.RealPid.{RealPid}
use Rattle.plain_tables.specs.Tables.{FIRST_PID}
use Rattle.host_tables.specs.Numbers.{Pids, Virts, real, IsHandedOut, ArePaired}
use Rattle.host_tables.proofs.MorePairs.{more_pairs, real_was}
use Rattle.rebuild_processes.specs.Making.{IsFrom}

pub set_here : (xs : List ℕ) (i n : ℕ) → i < length xs → slice_index (slice_set xs i n) i ≡ n
set_here xs i n h = get_or-set_same xs i n 0 h

pub set_beside : (xs : List ℕ) (i j n : ℕ) → i ≢ j → slice_index (slice_set xs i n) j ≡ slice_index xs j
set_beside xs i j n h = get_or-set_other xs i j n 0 (λ e. h (sym e))

module _ (pids : Pids) (virts : Virts) (next : List ℕ) (v node : ℕ) (paired : ArePaired pids virts next next)
    (first : FIRST_PID ≤ v) (there : node < length next) (positive : 1 ≤ slice_index next node)
    (new_v : map.get pids v ≡ None) (new_r : map.get virts (real node (slice_index next node)) ≡ None) where
  abbrev born : RealPid
  born = real node (slice_index next node)

  abbrev pub next' : List ℕ
  next' = slice_set next node (slice_index next node + 1)

  pub long : length next' ≡ length next
  long = length-set next node (slice_index next node + 1)

  own : IsHandedOut next' v born
  own = record {
    virt = first;
    node = omega (arith, there, long);
    first = positive;
    below = let here = set_here next node (slice_index next node + 1) there in omega (arith, here);
  }

  -- no node's next number falls
  pub at_node : (m n : ℕ) → n < slice_index next m → n < slice_index next' m
  at_node m n h = elim (same_or_other nat_cmp_total nat_cmp-IsAntisymmetric m node) [
    | inl same ↦
        let top = ap (slice_index next') same ∙ set_here next node (slice_index next node + 1) there in
        let was = ap (slice_index next) same in
        omega (arith, h, top, was)
    | inr differ ↦
        let kept = set_beside next node m (slice_index next node + 1) (λ e. differ (sym e)) in
        omega (arith, h, kept)
  ]

  later : (w : ℕ) (s : RealPid) → IsHandedOut next w s → IsHandedOut next' w s
  later w s before = record {
    virt = before.virt;
    node = omega (arith, before.node, long);
    first = before.first;
    below = at_node (s.node) s.pid before.below;
  }

  at_least : (m n : ℕ) → n ≤ slice_index next m → n ≤ slice_index next' m
  at_least m n h = elim (same_or_other nat_cmp_total nat_cmp-IsAntisymmetric m node) [
    | inl same ↦
        let top = ap (slice_index next') same ∙ set_here next node (slice_index next node + 1) there in
        let was = ap (slice_index next) same in
        omega (arith, h, top, was)
    | inr differ ↦
        let kept = set_beside next node m (slice_index next node + 1) (λ e. differ (sym e)) in
        omega (arith, h, kept)
  ]

  pub IsFrom-new : (base : ℕ) → IsFrom base pids next → IsFrom base (map.insert pids v born) next'
  IsFrom-new base from = record {
    positive = from.positive;
    next_from = λ n less. at_least n base (from.next_from n (subst (λ l. n < l) long less));
    given = λ w s is.
        elim (real_was pids virts paired.inverse v born new_v new_r w s is) [
          | inl here ↦ subst (λ (x : RealPid). base ≤ x.pid) (sym here.1) (from.next_from node there)
          | inr before ↦ from.given w s before.1
        ];
  }

  pub ArePaired-new : ArePaired (map.insert pids v born) (map.insert virts born v) next' next'
  ArePaired-new = record {
    inverse = more_pairs pids virts paired.inverse v born new_v new_r;
    handed_out = λ w s is.
        elim (real_was pids virts paired.inverse v born new_v new_r w s is) [
          | inl here ↦ subst (λ x. IsHandedOut next' x s) (sym here.0)
              (subst (λ (x : RealPid). IsHandedOut next' v x) (sym here.1) own)
          | inr before ↦ later w s (paired.handed_out w s before.1)
        ];
    next_is = refl;
  }

pub positive_at : (base : ℕ) (pids : Pids) (next : List ℕ) → IsFrom base pids next → (node : ℕ)
    → node < length next → 1 ≤ slice_index next node
positive_at base pids next from node less =
    let one = from.positive in
    let low = from.next_from node less in
    omega (arith, one, low)

-- what a node gives out is one number, and other nodes give out none
pub gave_one : (next : List ℕ) (node : ℕ) → node < length next → (n : ℕ)
    → slice_index (slice_set next node (slice_index next node + 1)) n ≤ slice_index next n + 1
gave_one next node there n = elim (same_or_other nat_cmp_total nat_cmp-IsAntisymmetric n node) [
  | inl same ↦
      let top = ap (slice_index (slice_set next node (slice_index next node + 1))) same
      ∙ set_here next node (slice_index next node + 1) there in
      let was = ap (slice_index next) same in
      omega (arith, top, was)
  | inr differ ↦
      let kept = set_beside next node n (slice_index next node + 1) (λ e. differ (sym e)) in
      omega (arith, kept)
]
