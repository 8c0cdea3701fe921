-- The processes whose tables hold a descriptor of a description.
use Rattle.std.proofs.Common.{◌≡◌, ℕ, zero, suc, Less, Bool, true, false, cond, ◌||◌, ◌↔◌, List, [], ◌∷◌, ◌++◌, refl, sym, ap, subst, ◌∙◌, arith, inl, inr, Contains, append-nil}
use Rattle.std.proofs.lemmas.List.{get_or_past}
use Rattle.std.specs.Prelude.{Option, Some, None, is_some, option_and_then}
use Rattle.std.specs.List.{list_any, AllByRecursion}
use Rattle.std.specs.List.Sorted.{IsStrictlySortedBy}
use Rattle.std.specs.Ordering.{eq_by_cmp}
use Rattle.std.specs.FinMap as map
use Rattle.std.specs.FinMap.{FinMap}
use Rattle.std.specs.BTreeMap as tree
use Rattle.std.specs.Map.{keys_of}
use Rattle.slab.proofs.SlabLemmas.{Contains-cons, Contains-cons_cases}
use Rattle.sys_abi.proofs.OfViews.TreeMaps.{view, entries-view}
use Rattle.sys_abi.proofs.OfViews.MapLaws.{true_false, key_tied, same_key}
use Rattle.sys_abi.proofs.OfViews.MapValues.{EachEntry, each_entry, at_entry}
use Rattle.sys_abi.specs.declared.identity.RealPid.{RealPid}
use Rattle.sys_abi.specs.declared.identity.DescId.{DescId}
use Rattle.sys_abi.specs.Orders.{desc_cmp, real_pid_cmp}
use Rattle.sys_abi.proofs.OrderLaws.{desc_total, desc_exact, real_pid_total, real_pid_exact}
use Rattle.sys_abi.specs.declared.descriptor.Descriptor.{Descriptor}
use Rattle.fd_tables.specs.Orders.{real_slot_cmp}
use Rattle.fd_tables.specs.Slots.{slot, refers_to, IsHolder}
use Rattle.fd_tables.specs.Tables.{at_place, place_refers}
use Rattle.fd_tables.proofs.TableLaws.{get-descriptors_of}
use Rattle.fd_tables.proofs.TableViews.{Trees, seen}

abbrev pub Places : Type 0
Places = List (Option Descriptor)

abbrev pub holds : DescId → Places → Bool
holds id places = list_any (place_refers id) places

-- the processes of the tables that hold it, in the tables' order
abbrev pub holders_in : DescId → List (RealPid × Places) → List RealPid
holders_in id [] = []
holders_in id (table ∷ tables) = cond (holds id table.1) (table.0 ∷ holders_in id tables) (holders_in id tables)

-- at the loop's end nothing is left
pub all_listed : (id : DescId) (listed : List RealPid) (left start es : List (RealPid × Places)) → listed ++ holders_in id left ≡ holders_in id start → left ≡ [] → start ≡ es → listed ≡ holders_in id es
all_listed id listed left start es is none from =
    sym (append-nil listed) ∙ ap (λ es. listed ++ holders_in id es) (sym none) ∙ is ∙ ap (holders_in id) from

below_holders : (id : DescId) (k : RealPid) (es : List (RealPid × Places)) → AllByRecursion (λ j. real_pid_cmp k j ≡ Less) (keys_of es) → AllByRecursion (λ j. real_pid_cmp k j ≡ Less) (holders_in id es)
below_holders id k [] below = tt
below_holders id k (e ∷ es) below =
    let rest = below_holders id k es below.1 in
    elim (holds id e.1) as (λ b. AllByRecursion (λ j. real_pid_cmp k j ≡ Less) (cond b (e.0 ∷ holders_in id es) (holders_in id es))) [ true ↦ (below.0, rest) | false ↦ rest ]

pub sorted_holders : (id : DescId) (es : List (RealPid × Places)) → IsStrictlySortedBy real_pid_cmp (keys_of es) → IsStrictlySortedBy real_pid_cmp (holders_in id es)
unfolding IsStrictlySortedBy
sorted_holders id [] sorted = tt
sorted_holders id (e ∷ es) sorted =
    let rest = sorted_holders id es sorted.1 in
    elim (holds id e.1) as (λ b. IsStrictlySortedBy real_pid_cmp (cond b (e.0 ∷ holders_in id es) (holders_in id es))) [ true ↦ (below_holders id e.0 es sorted.0, rest) | false ↦ rest ]

-- a place of the list, and whether a place refers
abbrev HoldsSome : DescId → Places → Type 0
HoldsSome id places = (fd : ℕ) × (d : Descriptor) × (at_place places fd ≡ Some d) × (d.desc ≡ id)

some_place : (id : DescId) (places : Places) → holds id places ≡ true → HoldsSome id places
some_place id [] none = true_false (sym none)
some_place id (None ∷ places) found = let later = some_place id places found in (suc later.0, later.1, later.2, later.3)
some_place id (Some d ∷ places) found =
    elim (refers_to id d) as (λ b. refers_to id d ≡ b → (b || holds id places) ≡ true → HoldsSome id (Some d ∷ places)) [
      | true ↦ λ here _. (0, d, refl, sym (same_key desc_total desc_exact id d.desc here))
      | false ↦ λ _ rest. let later = some_place id places rest in (suc later.0, later.1, later.2, later.3)
    ] refl found

or_true : (a : Bool) → (a || true) ≡ true
or_true true = refl
or_true false = refl

place_holds : (id : DescId) (places : Places) (fd : ℕ) (d : Descriptor) → at_place places fd ≡ Some d → d.desc ≡ id → holds id places ≡ true
place_holds id [] fd d at same = true_false (sym (ap is_some (sym (get_or_past [] fd None (omega arith)) ∙ at)))
place_holds id (place ∷ places) zero d at same =
    ap (λ p. place_refers id p || holds id places) at ∙ ap (λ b. b || holds id places) (ap (λ i. eq_by_cmp desc_cmp i d.desc) (sym same) ∙ key_tied desc_total desc_exact d.desc)
place_holds id (place ∷ places) (suc fd) d at same = ap (λ b. place_refers id place || b) (place_holds id places fd d at same) ∙ or_true (place_refers id place)

module _ (m : FinMap real_pid_cmp Places) (id : DescId) (p : RealPid) where
  abbrev HoldsIn : Type 0
  HoldsIn = (places : Places) × (map.get m p ≡ Some places) × (holds id places ≡ true)

  from_listed : (es : List (RealPid × Places)) → EachEntry (λ q places. map.get m q ≡ Some places) es → Contains (holders_in id es) p → HoldsIn
  from_listed [] each listed = absurd (omega (arith, listed.1))
  from_listed (e ∷ es) each listed =
      elim (holds id e.1) as (λ b. holds id e.1 ≡ b → Contains (cond b (e.0 ∷ holders_in id es) (holders_in id es)) p → HoldsIn) [
        | true ↦ λ here among. elim (Contains-cons_cases e.0 p (holders_in id es) among) [
          | inl same ↦ (e.1, ap (map.get m) (sym same) ∙ each.0, here)
          | inr later ↦ from_listed es each.1 later
        ]
        | false ↦ λ _ among. from_listed es each.1 among
      ] refl listed

weaker : {P Q : RealPid → Places → Type 0} (es : List (RealPid × Places)) → ((q : RealPid) (places : Places) → P q places → Q q places) → EachEntry P es → EachEntry Q es
weaker [] along each = tt
weaker (e ∷ es) along each = (along e.0 e.1 each.0, weaker es along each.1)

abbrev IsListed : DescId → List (RealPid × Places) → RealPid → Places → Type 0
IsListed id es q places = holds id places ≡ true → Contains (holders_in id es) q

each_listed : (id : DescId) (es : List (RealPid × Places)) → EachEntry (IsListed id es) es
each_listed id [] = tt
each_listed id (e ∷ es) = (
  λ here. subst (λ b. Contains (cond b (e.0 ∷ holders_in id es) (holders_in id es)) e.0) (sym here) (0, omega arith, refl),
  weaker es (λ q places listed held. further q (listed held)) (each_listed id es),
)
  where
    further : (q : RealPid) → Contains (holders_in id es) q → Contains (holders_in id (e ∷ es)) q
    further q among = elim (holds id e.1) as (λ b. Contains (cond b (e.0 ∷ holders_in id es) (holders_in id es)) q) [ true ↦ Contains-cons e.0 q (holders_in id es) among | false ↦ among ]

-- a process is listed where one of its descriptors refers to the description
pub listed_holders : (m : Trees) (now : FinMap real_slot_cmp Descriptor) (id : DescId) (listed : List RealPid) → tree.IsOrdered real_pid_cmp m → seen m ≡ now → listed ≡ holders_in id m.entries
    → (p : RealPid) → Contains listed p ↔ IsHolder now id p
listed_holders m now id listed ordered is all p = (there, back)
  where
    shown : map.entries (view real_pid_cmp m) ≡ m.entries
    shown = entries-view real_pid_total m ordered

    found : (fd : ℕ) → map.get now (slot p fd) ≡ option_and_then (λ places. at_place places fd) (map.get (view real_pid_cmp m) p)
    found fd = ap (λ w. map.get w (slot p fd)) (sym is) ∙ get-descriptors_of (view real_pid_cmp m) p fd

    there : Contains listed p → IsHolder now id p
    there among =
        let in_all : Contains (holders_in id (map.entries (view real_pid_cmp m))) p = subst (λ xs. Contains xs p) (all ∙ ap (holders_in id) (sym shown)) among in
        let table = from_listed (view real_pid_cmp m) id p (map.entries (view real_pid_cmp m)) (each_entry real_pid_total real_pid_exact _ (view real_pid_cmp m) (λ q v at. at)) in_all in
        let place = some_place id table.0 table.2 in
        (place.0, place.1, found place.0 ∙ ap (λ f. option_and_then (λ places. at_place places place.0) f) table.1 ∙ place.2, place.3)

    in_table : (table : Option Places) (fd : ℕ) (d : Descriptor) → map.get (view real_pid_cmp m) p ≡ table → option_and_then (λ places. at_place places fd) table ≡ Some d → d.desc ≡ id → Contains listed p
    in_table None fd d at none same = true_false (sym (ap is_some none))
    in_table (Some places) fd d at here same =
        subst (λ xs. Contains xs p) (ap (holders_in id) shown ∙ sym all)
        (at_entry real_pid_total real_pid_exact (IsListed id (map.entries (view real_pid_cmp m))) (view real_pid_cmp m) p places (each_listed id (map.entries (view real_pid_cmp m))) at
        (place_holds id places fd d here same))

    back : IsHolder now id p → Contains listed p
    back holder = in_table (map.get (view real_pid_cmp m) p) holder.0 holder.1 refl (sym (found holder.0) ∙ holder.2) holder.3
