-- One pair of numbers more, for a process or a thread: its virtual number is above all that are paired, its
-- real one is the next of its node.
--     new_virt, new_real          neither is paired yet
--     real_here, virt_here, ..    what is paired then, and that what was paired stays so
--     ArePaired-more              the pairs are as they should be
use Rattle.std.proofs.Common.{◌≡◌, ◌≢◌, ◌⊎◌, ℕ, ◌+◌, ◌<◌, ◌≤◌, Option, Some, None, inl, inr, refl, sym, ap, ◌∙◌, subst, List, length, arith}
use Rattle.std.specs.Prelude.{slice_index, slice_set}
use Rattle.std.specs.Cmp.{nat_cmp_total}
use Rattle.std.specs.FinMap as map
use Rattle.std.specs.FinMap.{nat_cmp-IsAntisymmetric}
use Rattle.std.proofs.lemmas.Option.{same_Some, none-some}
use Rattle.std.proofs.lemmas.List.{get_or-set_same, get_or-set_other, length-set}
use Rattle.views.proofs.MapLaws.{same_or_other, get_insert_same, get_insert_other}
use Rattle.sys_abi.specs.declared.identity.RealPid.{RealPid}
use Rattle.sys_abi.proofs.OrderLaws.{real_pid_total, real_pid_exact}
use Rattle.proc_book.specs.OfVirtIds.Pairs.{AreInverse}
use Rattle.proc_book.proofs.OfVirtIds.PairLaws.{AreInverse-insert}
use Rattle.plain_machine.specs.OfPlainTables.Tables.{FIRST_PID}
use Rattle.host_tables.specs.Numbers.{Pids, Virts, real, IsHandedOut, ArePaired}

-- a pair whose sides are new

module _ (pids : Pids) (virts : Virts) (inverse : AreInverse pids virts) (v : ℕ) (r : RealPid)
    (new_v : map.get pids v ≡ None) (new_r : map.get virts r ≡ None) where
  abbrev pub pids' : Pids
  pids' = map.insert pids v r

  abbrev pub virts' : Virts
  virts' = map.insert virts r v

  pub more_pairs : AreInverse pids' virts'
  more_pairs =
      AreInverse-insert nat_cmp_total nat_cmp-IsAntisymmetric real_pid_total real_pid_exact pids virts v r inverse
      new_v new_r

  pub real_here : map.get pids' v ≡ Some r
  real_here = get_insert_same nat_cmp_total nat_cmp-IsAntisymmetric pids v r

  pub real_beside : (w : ℕ) → w ≢ v → map.get pids' w ≡ map.get pids w
  real_beside w differ = get_insert_other nat_cmp_total nat_cmp-IsAntisymmetric pids v r w differ

  pub virt_here : map.get virts' r ≡ Some v
  virt_here = get_insert_same real_pid_total real_pid_exact virts r v

  pub virt_beside : (s : RealPid) → s ≢ r → map.get virts' s ≡ map.get virts s
  virt_beside s differ = get_insert_other real_pid_total real_pid_exact virts r v s differ

  -- what was paired stays paired
  pub real_kept : (w : ℕ) (s : RealPid) → map.get pids w ≡ Some s → map.get pids' w ≡ Some s
  real_kept w s is =
      real_beside w (λ same. none-some s (sym new_v ∙ ap (map.get pids) (sym same) ∙ is)) ∙ is

  pub virt_kept : (s : RealPid) (w : ℕ) → map.get virts s ≡ Some w → map.get virts' s ≡ Some w
  virt_kept s w is =
      virt_beside s (λ same. none-some w (sym new_r ∙ ap (map.get virts) (sym same) ∙ is)) ∙ is

  -- and nothing else is
  pub real_was : (w : ℕ) (s : RealPid) → map.get pids' w ≡ Some s
      → ((w ≡ v) × (s ≡ r)) ⊎ ((w ≢ v) × (map.get pids w ≡ Some s))
  real_was w s is = elim (same_or_other nat_cmp_total nat_cmp-IsAntisymmetric w v) [
    | inl same ↦ inl (same, same_Some s r (sym is ∙ ap (map.get pids') same ∙ real_here))
    | inr differ ↦ inr (differ, sym (real_beside w differ) ∙ is)
  ]

  pub real_none : (w : ℕ) → map.get pids' w ≡ None → map.get pids w ≡ None
  real_none w none = elim (same_or_other nat_cmp_total nat_cmp-IsAntisymmetric w v) [
    | inl same ↦ absurd (none-some r (sym none ∙ ap (map.get pids') same ∙ real_here))
    | inr differ ↦ sym (real_beside w differ) ∙ none
  ]

  pub virt_none : (s : RealPid) → map.get virts' s ≡ None → map.get virts s ≡ None
  virt_none s none = elim (same_or_other real_pid_total real_pid_exact s r) [
    | inl same ↦ absurd (none-some v (sym none ∙ ap (map.get virts') same ∙ virt_here))
    | inr differ ↦ sym (virt_beside s differ) ∙ none
  ]

-- next numbers

set_here : (xs : List ℕ) (i n : ℕ) → i < length xs → slice_index (slice_set xs i n) i ≡ n
set_here xs i n h = get_or-set_same xs i n 0 h

set_beside : (xs : List ℕ) (i j n : ℕ) → i ≢ j → slice_index (slice_set xs i n) j ≡ slice_index xs j
set_beside xs i j n h = get_or-set_other xs i j n 0 (λ e. h (sym e))

module _ (pids : Pids) (virts : Virts) (given next : List ℕ) (v node : ℕ) (paired : ArePaired pids virts given next)
    (first : FIRST_PID ≤ v) (there : node < length next) (positive : 1 ≤ slice_index next node)
    (below : (w : ℕ) (s : RealPid) → map.get pids w ≡ Some s → w < v) where
  abbrev pub born : RealPid
  born = real node (slice_index next node)

  abbrev pub next' : List ℕ
  next' = slice_set next node (slice_index next node + 1)

  itself : (n : ℕ) → n < n → ⊥
  itself n h = omega (arith, h)

  virt_by : (o : Option RealPid) → map.get pids v ≡ o → map.get pids v ≡ None
  virt_by None e = e
  virt_by (Some s) e = absurd (itself v (below v s e))

  pub new_virt : map.get pids v ≡ None
  new_virt = virt_by (map.get pids v) refl

  real_by : (o : Option ℕ) → map.get virts born ≡ o → map.get virts born ≡ None
  real_by None e = e
  real_by (Some w) e =
      absurd (itself (slice_index next node) ((paired.handed_out w born (paired.inverse.leads_there w born e)).below))

  pub new_real : map.get virts born ≡ None
  new_real = real_by (map.get virts born) refl

  long : length next' ≡ length next
  long = length-set next node (slice_index next node + 1)

  own : IsHandedOut next' v born
  own = record {
    virt = first;
    node = omega (arith, there, long);
    first = positive;
    below = let here = set_here next node (slice_index next node + 1) there in omega (arith, here);
  }

  at_node : (m n : ℕ) → n < slice_index next m → n < slice_index next' m
  at_node m n h = elim (same_or_other nat_cmp_total nat_cmp-IsAntisymmetric m node) [
    | inl same ↦
        let top = ap (slice_index next') same ∙ set_here next node (slice_index next node + 1) there in
        let was = ap (slice_index next) same in
        omega (arith, h, top, was)
    | inr differ ↦
        let kept = set_beside next node m (slice_index next node + 1) (λ e. differ (sym e)) in
        omega (arith, h, kept)
  ]

  later : (w : ℕ) (s : RealPid) → IsHandedOut next w s → IsHandedOut next' w s
  later w s before = record {
    virt = before.virt;
    node = omega (arith, before.node, long);
    first = before.first;
    below = at_node (s.node) s.pid before.below;
  }

  abbrev pub given' : List ℕ
  given' = slice_set given node (slice_index next node + 1)

  pub ArePaired-more : ArePaired (map.insert pids v born) (map.insert virts born v) given' next'
  ArePaired-more = record {
    inverse = more_pairs pids virts paired.inverse v born new_virt new_real;
    handed_out = λ w s is.
        elim (real_was pids virts paired.inverse v born new_virt new_real w s is) [
          | inl here ↦ subst (λ x. IsHandedOut next' x s) (sym here.0)
              (subst (λ (x : RealPid). IsHandedOut next' v x) (sym here.1) own)
          | inr before ↦ later w s (paired.handed_out w s before.1)
        ];
    next_is = ap (λ xs. slice_set xs node (slice_index next node + 1)) paired.next_is;
  }
