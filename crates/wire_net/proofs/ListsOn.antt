-- The lists of what was drained, by their directions.
--     list_dir, one_listed       a list that is found is of that direction, and what holds of all holds of it
--     each_listed                what holds of each list that is found at its direction
--     list_beside                a change of one list leaves those on other directions
use Rattle.std.proofs.Common.{◌≡◌, ◌≢◌, ℕ, ◌<◌, suc, Bool, true, false, List, [], ◌∷◌, ◌++◌, take, drop, length, get_or, set, refl, sym, ap, ap₂, subst, ◌∙◌, arith}
use Rattle.std.specs.Prelude.{Option, Some, None, All, map as each, if◌then◌else◌}
use Rattle.std.specs.Ordering.{eq_by_cmp}
use Rattle.std.proofs.Math.Seq.{drop-cons, set-append_seam}
use Rattle.std.proofs.lemmas.List.{take-append-drop, length-take-le}
use Rattle.std.proofs.lemmas.List.Elements.{All-nil, All-cons, All-head, All-tail}
use Rattle.std.proofs.lemmas.Option.{same_Some}
use Rattle.views.proofs.MapLaws.{same_key, key_tied, other_key}
use Rattle.sys_abi.specs.declared.identity.Dir.{Dir}
use Rattle.sys_abi.specs.Orders.{dir_cmp}
use Rattle.sys_abi.proofs.OrderLaws.{dir_total, dir_exact}
use Rattle.wire_net.specs.declared.cut_room.DirBytes.{DirBytes}
use Rattle.wire_net.specs.DrainedNets.{list_on}
use Rattle.wire_net.specs.Noted.{Apart}

abbrev Lists : Type 0
Lists = List DirBytes

pub one_listed : (P : DirBytes → Type 0) (d : Dir) (lists : Lists) (list : DirBytes) → list_on d lists ≡ Some list → All P lists → P list
one_listed P d [] list is all = absurd (apart is)
  where
    apart : {z : DirBytes} → None ≡ Some z → ⊥
    apart e = cc
one_listed P d (z ∷ lists) list is all = choice (eq_by_cmp dir_cmp z.dir d) is (λ there. one_listed P d lists list there (All-tail P z lists all))
  where
    choice : (b : Bool) → (if b then Some z else list_on d lists) ≡ Some list → (list_on d lists ≡ Some list → P list) → P list
    choice true is rest = subst P (same_Some z list is) (All-head P z lists all)
    choice false is rest = rest is

pub list_dir : (d : Dir) (lists : Lists) (list : DirBytes) → list_on d lists ≡ Some list → list.dir ≡ d
list_dir d [] list is = absurd (apart is)
  where
    apart : {z : DirBytes} → None ≡ Some z → ⊥
    apart e = cc
list_dir d (z ∷ lists) list is = choice (eq_by_cmp dir_cmp z.dir d) refl is (list_dir d lists list)
  where
    choice : (b : Bool) → eq_by_cmp dir_cmp z.dir d ≡ b → (if b then Some z else list_on d lists) ≡ Some list → (list_on d lists ≡ Some list → list.dir ≡ d) → list.dir ≡ d
    choice true at is rest = ap (λ (l : DirBytes). l.dir) (sym (same_Some z list is)) ∙ same_key dir_total dir_exact z.dir d at
    choice false at is rest = rest is

of_dirs : (P : Dir → Type 0) (lists : Lists) → All P (each (λ list. list.dir) lists) → All (λ list. P list.dir) lists
of_dirs P [] all = All-nil (λ (list : DirBytes). P list.dir)
of_dirs P (z ∷ lists) all =
    All-cons (λ (list : DirBytes). P list.dir) z lists (All-head P z.dir (each (λ list. list.dir) lists) all) (of_dirs P lists (All-tail P z.dir (each (λ list. list.dir) lists) all))

pub each_listed : (Q : DirBytes → Type 0) (lists : Lists) → Apart (each (λ list. list.dir) lists) → ((list : DirBytes) → list_on list.dir lists ≡ Some list → Q list) → All Q lists
each_listed Q [] apart told = All-nil Q
each_listed Q (z ∷ lists) apart told =
    All-cons Q z lists (told z (ap (λ (b : Bool). if b then Some z else list_on z.dir lists) (key_tied dir_total dir_exact z.dir)))
    (each_listed Q lists apart.1 (λ list at.
    told list
    (ap (λ (b : Bool). if b then Some z else list_on list.dir lists)
    (other_key dir_total dir_exact z.dir list.dir (λ same. one_listed (λ (l : DirBytes). l.dir ≢ z.dir) list.dir lists list at (of_dirs (λ e. e ≢ z.dir) lists apart.0) (sym same))) ∙ at)))

-- a list on another direction is passed over
skipped : (d : Dir) (front back : Lists) (z : DirBytes) → z.dir ≢ d → list_on d (front ++ z ∷ back) ≡ list_on d (front ++ back)
skipped d [] back z differ = ap (λ (b : Bool). if b then Some z else list_on d back) (other_key dir_total dir_exact z.dir d differ)
skipped d (y ∷ front) back z differ = ap (λ (o : Option DirBytes). if eq_by_cmp dir_cmp y.dir d then Some y else o) (skipped d front back z differ)

pub list_beside : (d : Dir) (lists : Lists) (i : ℕ) (z v : DirBytes) → i < length lists → (get_or lists i z).dir ≢ d → v.dir ≢ d → list_on d (set lists i v) ≡ list_on d lists
list_beside d lists i z v below old new =
    let front = take i lists in
    let back = drop (suc i) lists in
    let whole : lists ≡ front ++ get_or lists i z ∷ back = sym (take-append-drop i lists) ∙ ap (λ (l : Lists). front ++ l) (drop-cons lists i z below) in
    let many : i ≡ length front = sym (length-take-le i lists (omega (arith, below))) in
    ap (list_on d) (ap₂ (λ (l : Lists) (k : ℕ). set l k v) whole many ∙ set-append_seam front (get_or lists i z) back v)
    ∙ skipped d front back v new ∙ sym (ap (list_on d) whole ∙ skipped d front back (get_or lists i z) old)
