-- A run of sets that are put, from call to call.
--     one_more           one more set
--     none_above         what counts after a refusal is not above its generation
--     next_opened        the next generation after that
--     ok_both            two clauses of one answer
use Rattle.std.proofs.Common.{◌≡◌, ◌⊎◌, ℕ, suc, ◌+◌, ◌<◌, ◌≤◌, max, inl, inr, List, sym, subst, arith}
use Rattle.std.specs.Prelude.{Option, Some, None, IfSome, option_map, slice_get, Result, Ok, Err, IfOk}
use Rattle.std.specs.Option.{option_map_or}
use Rattle.disk_folder.specs.Files.{FolderFiles}
use Rattle.image_format.specs.declared.set_bytes.SetBytes.{SetBytes}
use Rattle.image_store.specs.Slots.{last}
use Rattle.image_store.specs.FoundSets.{FoundSet, HasSet, last_set, set_of}
use Rattle.image_store.specs.StoreStates.{Known, FitsFiles, NoneAbove, generation_after, next_generation}
use Rattle.image_store.specs.StoreCrashes.{OldOrNew}
use Rattle.store_runs.specs.StoreRuns.{IsOneOf}
use Rattle.image_store.specs.declared.set_info.SetInfo.{SetInfo}

-- one more set is put over one of those
pub one_more : (before : Option FoundSet) (g n : ℕ) (sets : List SetBytes) (i : ℕ) (set : SetBytes) (now found : Option FoundSet) → slice_get sets i ≡ Some set → n ≡ g + i → IsOneOf before g sets now → (found ≡ now) ⊎ HasSet found n set.files → IsOneOf before g sets found
one_more before g n sets i set now found there number was (inl same) = subst (IsOneOf before g sets) (sym same) was
one_more before g n sets i set now found there number was (inr has) = inr (i, set, there, subst (λ m. HasSet found m set.files) number has)

within : (floor : ℕ) (found : Option SetInfo) (g : ℕ) → g ≡ generation_after floor found → IfSome found (λ i. i.generation ≤ g)
unfolding generation_after
within floor None g is = tt
within floor (Some i) g is = omega arith

old_below : (files : FolderFiles) (found : Option SetInfo) (g : ℕ) → last files ≡ found → IfSome found (λ i. i.generation ≤ g) → IfSome (last_set files) (λ set. set.generation ≤ g)
unfolding last_set set_of
old_below files None g is below = let P : Option SetInfo → Type 0 = λ o. IfSome (option_map (set_of files) o) (λ set. set.generation ≤ g) in subst P (sym is) tt
old_below files (Some i) g is below = let P : Option SetInfo → Type 0 = λ o. IfSome (option_map (set_of files) o) (λ set. set.generation ≤ g) in subst P (sym is) below

new_below : (found : Option FoundSet) (g : ℕ) (bytes : List (List ℕ)) → HasSet found g bytes → IfSome found (λ set. set.generation ≤ g)
new_below found g bytes (set, is, whole) = let P : Option FoundSet → Type 0 = λ o. IfSome o (λ s. s.generation ≤ g) in subst P (sym is) (let same = whole.generation in omega arith)

pub none_above : (store : Known) (files after : FolderFiles) (outcomes : FolderFiles → Type 0) (g : ℕ) (bytes : List (List ℕ)) → FitsFiles store files outcomes → g ≡ next_generation store → OldOrNew (last_set files) (next_generation store) bytes after → NoneAbove g after
none_above store files after outcomes g bytes fits number (inl same) some =
    let P : Option FoundSet → Type 0 = λ o. IfSome o (λ set. set.generation ≤ g) in
    subst P (sym same) (old_below files store.last g fits.last (within store.floor store.last g number))
none_above store files after outcomes g bytes fits number (inr has) some = new_below (last_set after) g bytes (subst (λ n. HasSet (last_set after) n bytes) (sym number) has)

pub next_opened : (store : Known) (g : ℕ) → store.floor ≡ g → (0 < g → IfSome store.last (λ i. i.generation ≤ g)) → 0 < g → next_generation store ≡ suc g
unfolding generation_after
next_opened store g floor_is below some = at_last store.last (below some)
  where
    at_last : (found : Option SetInfo) → IfSome found (λ i. i.generation ≤ g) → suc (max store.floor (option_map_or (λ info. info.generation) found 0)) ≡ suc g
    at_last None under = omega arith
    at_last (Some i) under = omega arith

pub some_next : (store : Known) → 0 < next_generation store
unfolding generation_after
some_next store = omega arith

pub ok_both : {A E : Type 0} {P Q R : A → Type 0} (result : Result A E) → IfOk result P → IfOk result Q → ((x : A) → P x → Q x → R x) → IfOk result R
ok_both (Ok x) p q both = both x p q
ok_both (Err e) p q both = tt
