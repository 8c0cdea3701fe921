-- The makers of processes, taken one after the other.
--     makers_on, makers_none      one process more
--     makers_done                 those of all processes are all that there are
use Rattle.std.proofs.Common.{◌≡◌, true, false, ◌||◌, cond, List, [], ◌∷◌, map as mapped, refl, sym, ap, ◌∙◌}
use Rattle.std.specs.Prelude.{Some, is_some}
use Rattle.std.specs.List.{list_any}
use Rattle.std.specs.Ordering.{eq_by_cmp}
use Rattle.std.specs.FinMap as map
use Rattle.views.proofs.MapLaws.{true_false, same_key}
use Rattle.sys_abi.specs.declared.identity.VPid.{VPid}
use Rattle.sys_abi.specs.Orders.{vpid_cmp}
use Rattle.sys_abi.proofs.OrderLaws.{vpid_total, vpid_exact}
use Rattle.plain_tables.specs.Tables.{Makers, Processes}
use Rattle.seen_kernel.specs.Parts.{IsPart}
use Rattle.seen_kernel.proofs.Parts.{nothing_yet, all_of_it, entry_part, entry_kept, entry_there}
use Rattle.seen_kernel.specs.Makers.{SameKeys, with_maker, with_makers}

module _ (all : Makers) where
  makers_part : (seen : Makers) (ps : List VPid) → IsPart all seen → IsPart all (with_makers all seen ps)
  unfolding with_makers
  makers_part seen [] part = part
  makers_part seen (p ∷ ps) part =
      makers_part (with_maker all seen p) ps
      (entry_part vpid_total vpid_exact all seen p (map.get all p) part (λ v is. is))

  makers_kept : (seen : Makers) (ps : List VPid) (q : VPid) → is_some (map.get seen q) ≡ true
      → is_some (map.get (with_makers all seen ps) q) ≡ true
  unfolding with_makers
  makers_kept seen [] q has = has
  makers_kept seen (p ∷ ps) q has =
      makers_kept (with_maker all seen p) ps q (entry_kept vpid_total vpid_exact seen p (map.get all p) q has)

  makers_there : (seen : Makers) (ps : List VPid) (q : VPid) → list_any (eq_by_cmp vpid_cmp q) ps ≡ true
      → is_some (map.get all q) ≡ true → is_some (map.get (with_makers all seen ps) q) ≡ true
  unfolding with_makers
  makers_there seen [] q listed has = true_false (sym listed)
  makers_there seen (p ∷ ps) q listed has =
      elim (eq_by_cmp vpid_cmp q p) as (λ b. eq_by_cmp vpid_cmp q p ≡ b
      → (b || list_any (eq_by_cmp vpid_cmp q) ps) ≡ true
      → is_some (map.get (with_makers all (with_maker all seen p) ps) q) ≡ true) [
        | true ↦ λ tied any.
            let same : q ≡ p = same_key vpid_total vpid_exact q p tied in
            makers_kept (with_maker all seen p) ps q
            (entry_there vpid_total vpid_exact seen p (map.get all p) q same
            (ap (λ x. is_some (map.get all x)) (sym same) ∙ has))
        | false ↦ λ apart any. makers_there (with_maker all seen p) ps q any has
      ] refl listed

is_key : {X : Type 0} (es : List (VPid × X)) (q : VPid) → is_some (map.find vpid_cmp q es) ≡ true
    → list_any (eq_by_cmp vpid_cmp q) (mapped (λ e. e.0) es) ≡ true
is_key [] q has = true_false (sym has)
is_key (e ∷ es) q has =
    elim (eq_by_cmp vpid_cmp q e.0) as (λ b. is_some (cond b (Some e.1) (map.find vpid_cmp q es)) ≡ true
    → (b || list_any (eq_by_cmp vpid_cmp q) (mapped (λ e. e.0) es)) ≡ true) [
      | true ↦ λ some. refl
      | false ↦ λ some. is_key es q some
    ] has

pub makers_done : (all : Makers) (processes : Processes) → SameKeys all processes
    → with_makers all map.empty (map.keys processes) ≡ all
makers_done all processes same =
    all_of_it vpid_total vpid_exact all (with_makers all map.empty (map.keys processes))
    (makers_part all map.empty (map.keys processes) (nothing_yet all))
    (λ q has. makers_there all map.empty (map.keys processes) q
    (is_key (map.entries processes) q (ap is_some (sym (map.get-entries processes q)) ∙ sym (same q) ∙ has))
    has)

pub makers_on : (all seen whole : Makers) (p : VPid) (ps rest : List VPid) → ps ≡ p ∷ rest
    → with_makers all seen ps ≡ whole → with_makers all (with_maker all seen p) rest ≡ whole
unfolding with_makers
makers_on all seen whole p ps rest is same = sym (ap (with_makers all seen) is) ∙ same

pub makers_none : (all seen : Makers) → with_makers all seen [] ≡ seen
unfolding with_makers
makers_none all seen = refl
