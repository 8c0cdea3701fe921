-- The notes on a direction at their place in the list.
--     at_place                an item is found at its direction
--     at_found                an item on a direction is the one that is found there
--     set_is_put              an item is replaced
use Rattle.std.proofs.Common.{◌≡◌, ◌≢◌, ℕ, ◌<◌, Bool, true, [], ◌∷◌, ◌++◌, length, get_or, set, refl, sym, ap, ap₂, subst, ◌∙◌}
use Rattle.std.specs.Prelude.{Some, All, slice_get, if◌then◌else◌}
use Rattle.std.specs.Ordering.{eq_by_cmp}
use Rattle.std.proofs.Math.Seq.{set-append_seam}
use Rattle.std.proofs.lemmas.List.{map-append}
use Rattle.std.proofs.lemmas.List.Elements.{All-nil, All-cons, All-head, All-tail}
use Rattle.std.proofs.lemmas.Option.{slice_get-get_or}
use Rattle.views.proofs.MapLaws.{same_key, key_tied, other_key}
use Rattle.sys_abi.specs.declared.identity.Dir.{Dir}
use Rattle.sys_abi.specs.Orders.{dir_cmp}
use Rattle.sys_abi.proofs.OrderLaws.{dir_total, dir_exact}
use Rattle.wire_net.specs.declared.cut_room.DirNotes.{DirNotes}
use Rattle.wire_net.proofs.EachItem.{place}
use Rattle.refill_core.specs.Refills.{Notes, dirs_of, Apart, notes_at, put_notes}
use Rattle.refill_core.proofs.Bytes.{at_itself, front_apart}

pub at_place : (notes : Notes) (i : ℕ) (z : DirNotes) → i < length notes → Apart (dirs_of notes) → notes_at (get_or notes i z).dir notes ≡ Some (get_or notes i z)
at_place notes i z below apart = let at = place notes i z below in at_itself notes at.front at.back (get_or notes i z) at.whole apart

pub at_found : (notes : Notes) (i : ℕ) (z : DirNotes) (d : Dir) → i < length notes → Apart (dirs_of notes)
    → eq_by_cmp dir_cmp (get_or notes i z).dir d ≡ true → slice_get notes i ≡ notes_at d notes
at_found notes i z d below apart tied =
    slice_get-get_or notes i z below ∙ sym (at_place notes i z below apart)
    ∙ ap (λ (e : Dir). notes_at e notes) (same_key dir_total dir_exact (get_or notes i z).dir d tied)

-- those on other directions stay
untouched : (d : Dir) (v : DirNotes) (notes : Notes) → All (λ z. z.dir ≢ d) notes → put_notes d v notes ≡ notes
untouched d v [] apart = refl
untouched d v (z ∷ notes) apart =
    ap₂ (λ (b : Bool) (l : Notes). (if b then v else z) ∷ l) (other_key dir_total dir_exact z.dir d (All-head (λ (y : DirNotes). y.dir ≢ d) z notes apart)) (untouched d v notes (All-tail (λ (y : DirNotes). y.dir ≢ d) z notes apart))

put_middle : (v : DirNotes) (front back : Notes) (x : DirNotes) → All (λ z. z.dir ≢ x.dir) front → All (λ z. z.dir ≢ x.dir) back → put_notes x.dir v (front ++ x ∷ back) ≡ front ++ v ∷ back
put_middle v front back x first last =
    map-append (λ (z : DirNotes). if eq_by_cmp dir_cmp z.dir x.dir then v else z) front (x ∷ back)
    ∙ ap₂ (λ (a b : Notes). a ++ b) (untouched x.dir v front first)
    (ap₂ (λ (b : Bool) (l : Notes). (if b then v else x) ∷ l) (key_tied dir_total dir_exact x.dir) (untouched x.dir v back last))

back_apart : (front back : Notes) (x : DirNotes) → Apart (dirs_of (front ++ x ∷ back)) → All (λ y. y.dir ≢ x.dir) back
back_apart [] back x apart = of_dirs back apart.0
  where
    of_dirs : (notes : Notes) → All (λ e. e ≢ x.dir) (dirs_of notes) → All (λ y. y.dir ≢ x.dir) notes
    of_dirs [] all = All-nil (λ (y : DirNotes). y.dir ≢ x.dir)
    of_dirs (z ∷ notes) all = All-cons (λ (y : DirNotes). y.dir ≢ x.dir) z notes (All-head (λ e. e ≢ x.dir) z.dir (dirs_of notes) all) (of_dirs notes (All-tail (λ e. e ≢ x.dir) z.dir (dirs_of notes) all))
back_apart (y ∷ front) back x apart = back_apart front back x apart.1

pub set_is_put : (notes : Notes) (i : ℕ) (z v : DirNotes) → i < length notes → Apart (dirs_of notes) → set notes i v ≡ put_notes (get_or notes i z).dir v notes
set_is_put notes i z v below apart =
    let at = place notes i z below in
    let x = get_or notes i z in
    let here = subst (λ (l : Notes). Apart (dirs_of l)) at.whole apart in
    ap₂ (λ (l : Notes) (k : ℕ). set l k v) at.whole (sym at.many) ∙ set-append_seam at.front x at.back v
    ∙ sym (ap (put_notes x.dir v) at.whole ∙ put_middle v at.front at.back x (front_apart at.front at.back x here) (back_apart at.front at.back x here))
