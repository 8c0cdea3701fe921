-- The least unsupported row of one more row.
use Rattle.std.proofs.Common.{◌≡◌, ℕ, ◌+◌, ◌<◌, ◌≤◌, get_or, take, length, subst, Ordering, Less, Equal, Greater, Bool, true, false, List, [], ◌∷◌, ◌++◌, append_assoc, refl, sym, ap, ◌∙◌}
use Rattle.std.specs.Prelude.{Option, Some, None, if◌then◌else◌}
use Rattle.std.specs.Ordering.{is_lt, ordering_reverse}
use Rattle.std.specs.Cmp.{IsTotalOrder}
use Rattle.std.proofs.lemmas.List.Elements.{All-nil, All-cons, All-push, All-same, All-append, All-weaker}
use Rattle.std.proofs.lemmas.List.{take_more, take_all}
use Rattle.id_maps.proofs.OfViews.MapLaws.{true_false}
use Rattle.id_maps.proofs.OfSysAbi.OrderLaws.{slot_total}
use Rattle.conn_table.specs.Unsupported.{Row, is_unsupported, slot_of, comes_before, IsAfter, IsNotBefore, IsSupported, IsFirstLeast, IsLeastUnsupported, lesser_of, lesser}

less : (r : Ordering) → is_lt r ≡ true → r ≡ Less
less Less is = refl
less Equal is = true_false (sym is)
less Greater is = true_false (sym is)

module _ {K : Type 0} {R : K → K → Ordering} (o : IsTotalOrder R) where
  before_before : (x y z : K) → is_lt (R x y) ≡ true → is_lt (R y z) ≡ true → is_lt (R x z) ≡ true
  before_before x y z first second = ap is_lt (o.trans x y z (less _ first) (less _ second))

  -- before one that no later one comes before
  before_rest : (x y z : K) → is_lt (R x y) ≡ true → is_lt (R z y) ≡ false → is_lt (R x z) ≡ true
  before_rest x y z first second = elim (R z y) as (λ r. R z y ≡ r → is_lt r ≡ false → is_lt (R x z) ≡ true) [
    | Less ↦ λ is no. true_false no
    | Equal ↦ λ is no. ap is_lt (o.antisymm x z ∙ ap ordering_reverse (o.congr z y x is) ∙ sym (o.antisymm x y)) ∙ first
    | Greater ↦ λ is no. before_before x y z first (ap is_lt (o.antisymm y z ∙ ap ordering_reverse is))
  ] refl second

-- the row comes before the least one so far
in_front : (rows : List Row) (found row : Row) → is_unsupported row.2 ≡ true → IsFirstLeast rows found → comes_before row found ≡ true → IsFirstLeast (rows ++ row ∷ []) row
in_front rows found row kind least is = record {
  earlier = rows;
  later = [];
  split = refl;
  kind = kind;
  after = All-same (IsAfter row) rows _ least.split (All-append (IsAfter row) least.earlier _
      (All-weaker (IsAfter found) (IsAfter row) (λ other after unsupported. before_before slot_total (slot_of row) (slot_of found) (slot_of other) is (after unsupported)) least.earlier least.after)
      (All-cons (IsAfter row) found least.later (λ _. is)
      (All-weaker (IsNotBefore found) (IsAfter row) (λ other none unsupported. before_rest slot_total (slot_of row) (slot_of found) (slot_of other) is (none unsupported)) least.later least.none)));
  none = All-nil (IsNotBefore row);
}

-- the least one so far stays
still_least : (rows : List Row) (found row : Row) → IsFirstLeast rows found → (is_unsupported row.2 ≡ true → comes_before row found ≡ false) → IsFirstLeast (rows ++ row ∷ []) found
still_least rows found row least not_before = record {
  earlier = least.earlier;
  later = least.later ++ row ∷ [];
  split = ap (λ xs. xs ++ row ∷ []) least.split ∙ append_assoc least.earlier (found ∷ least.later) (row ∷ []);
  kind = least.kind;
  after = least.after;
  none = All-push (IsNotBefore found) least.later row least.none not_before;
}

by_order : (before : Bool) (rows : List Row) (found row : Row) → is_unsupported row.2 ≡ true → IsFirstLeast rows found → comes_before row found ≡ before → IsLeastUnsupported (rows ++ row ∷ []) (if before then Some row else Some found)
by_order true rows found row kind least is = in_front rows found row kind least is
by_order false rows found row kind least is = still_least rows found row least (λ _. is)

by_kind : (kind : Bool) (rows : List Row) (least : Option Row) (row : Row) → is_unsupported row.2 ≡ kind → IsLeastUnsupported rows least → IsLeastUnsupported (rows ++ row ∷ []) (lesser_of kind row least)
by_kind false rows None row is none = All-push IsSupported rows row none is
by_kind false rows (Some found) row is least = still_least rows found row least (λ unsupported. true_false (sym unsupported ∙ is))
by_kind true rows None row is none = record {
  earlier = rows;
  later = [];
  split = refl;
  kind = is;
  after = All-weaker IsSupported (IsAfter row) (λ other supported unsupported. true_false (sym unsupported ∙ supported)) rows none;
  none = All-nil (IsNotBefore row);
}
by_kind true rows (Some found) row is least = by_order (comes_before row found) rows found row is least refl

lesser_is_least : (rows : List Row) (least : Option Row) (row : Row) → IsLeastUnsupported rows least → IsLeastUnsupported (rows ++ row ∷ []) (lesser least row)
lesser_is_least rows least row so_far = by_kind (is_unsupported row.2) rows least row refl so_far

pub least_of_more : (rows : List Row) (i : ℕ) (d : Row) (least next : Option Row) → i < length rows → IsLeastUnsupported (take i rows) least → next ≡ lesser least (get_or rows i d) → IsLeastUnsupported (take (i + 1) rows) next
least_of_more rows i d least next below so_far is =
    subst (λ found. IsLeastUnsupported (take (i + 1) rows) found) (sym is)
    (subst (λ front. IsLeastUnsupported front (lesser least (get_or rows i d))) (sym (take_more rows i d below))
    (lesser_is_least (take i rows) least (get_or rows i d) so_far))

pub least_of_all : (rows : List Row) (i : ℕ) (least : Option Row) → length rows ≤ i → IsLeastUnsupported (take i rows) least → IsLeastUnsupported rows least
least_of_all rows i least past so_far = subst (λ front. IsLeastUnsupported front least) (take_all i rows past) so_far
