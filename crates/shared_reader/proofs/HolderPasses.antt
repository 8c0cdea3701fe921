-- A pass over descriptors, and one over processes, finds the holders of each description
use Rattle.std.proofs.Common.{◌≡◌, ◌+◌, ◌<◌, ℕ, true, false, cond, List, [], ◌∷◌, ◌++◌, length, take, get_or, refl, sym, ap, ◌∙◌}
use Rattle.std.specs.Prelude.{Some, None, fold}
use Rattle.std.specs.Ordering.{eq_by_cmp}
use Rattle.std.proofs.lemmas.List.{take_more}
use Rattle.std.specs.FinMap as map
use Rattle.std.specs.FinMap.{get-insert, get-empty}
use Rattle.views.proofs.MapLaws.{same_key}
use Rattle.sys_abi.specs.declared.identity.DescId.{DescId}
use Rattle.sys_abi.specs.Orders.{desc_cmp}
use Rattle.sys_abi.proofs.OrderLaws.{desc_total, desc_exact}
use Rattle.shared_items.specs.declared.shared.DescriptorEntry.{DescriptorEntry}
use Rattle.shared_items.specs.declared.shared.ProcessEntry.{ProcessEntry}
use Rattle.shared_items.proofs.DescriptionNames.{key_desc}
use Rattle.shared_reader.specs.declared.holders.Holders.{Holders}
use Rattle.shared_reader.specs.HoldersOf.{with_holder, after_descriptor, after_process, KnowsHolders}

pub holder_noted : (m new : map.FinMap desc_cmp Holders) (id : DescId) (host : ℕ) (noted : Holders) → new ≡ map.insert m id noted
    → Some noted ≡ with_holder (map.get m id) host → (key : DescId) → map.get new key ≡ cond (eq_by_cmp desc_cmp key id) (with_holder (map.get m key) host) (map.get m key)
holder_noted m new id host noted same is key =
    ap (λ x. map.get x key) same ∙ get-insert desc_total m id noted key
    ∙ elim (eq_by_cmp desc_cmp key id) as (λ b. eq_by_cmp desc_cmp key id ≡ b → cond b (Some noted) (map.get m key) ≡ cond b (with_holder (map.get m key) host) (map.get m key)) [
      | true ↦ λ e. is ∙ ap (λ k. with_holder (map.get m k) host) (sym (same_key desc_total desc_exact key id e))
      | false ↦ λ e. refl
    ] refl

fold_pushed : {S X : Type 0} (f : S → X → S) (s : S) (xs : List X) (x : X) → fold f s (xs ++ x ∷ []) ≡ f (fold f s xs) x
fold_pushed f s [] x = refl
fold_pushed f s (y ∷ xs) x = fold_pushed f (f s y) xs x

fold_more : {S X : Type 0} (f : S → X → S) (s : S) (xs : List X) (i : ℕ) (d : X) → i < length xs → fold f s (take (i + 1) xs) ≡ f (fold f s (take i xs)) (get_or xs i d)
fold_more f s xs i d inside = ap (fold f s) (take_more xs i d inside) ∙ fold_pushed f s (take i xs) (get_or xs i d)

pub descriptor_more : (start m new : map.FinMap desc_cmp Holders) (host : ℕ) (descriptors : List DescriptorEntry) (i : ℕ) (d : DescriptorEntry) → i < length descriptors
    → ((key : DescId) → map.get new key ≡ cond (eq_by_cmp desc_cmp key (get_or descriptors i d).desc) (with_holder (map.get m key) host) (map.get m key))
    → ((key : DescId) → map.get m key ≡ fold (after_descriptor key host) (map.get start key) (take i descriptors))
    → (key : DescId) → map.get new key ≡ fold (after_descriptor key host) (map.get start key) (take (i + 1) descriptors)
descriptor_more start m new host descriptors i d inside step before key =
    step key
    ∙ ap (λ b. cond b (with_holder (map.get m key) host) (map.get m key)) (key_desc key (get_or descriptors i d).desc)
    ∙ ap (λ found. after_descriptor key host found (get_or descriptors i d)) (before key)
    ∙ sym (fold_more (after_descriptor key host) (map.get start key) descriptors i d inside)

pub nobody_holds : (m : map.FinMap desc_cmp Holders) → m ≡ map.empty → KnowsHolders m []
nobody_holds m is key = ap (λ x. map.get x key) is ∙ get-empty desc_cmp key

pub process_more : (m new : map.FinMap desc_cmp Holders) (processes : List ProcessEntry) (i : ℕ) (p : ProcessEntry) → i < length processes → p ≡ get_or processes i p
    → ((key : DescId) → map.get new key ≡ after_process key (map.get m key) p) → KnowsHolders m (take i processes) → KnowsHolders new (take (i + 1) processes)
process_more m new processes i p inside is step before key =
    step key ∙ (λ j. after_process key (before key j) (is j)) ∙ sym (fold_more (after_process key) None processes i p inside)
