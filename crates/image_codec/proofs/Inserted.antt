-- Maps made of the entries of a list, put in from its end
use Rattle.std.proofs.Common.{◌≡◌, ℕ, Ordering, List, [], ◌∷◌, ◌++◌, map as mapped, refl, sym, ap, ◌∙◌, append_assoc, append-nil}
use Rattle.std.specs.List.{flat_map, filter_map, cons_option}
use Rattle.std.specs.Prelude.{Vec, Option, Some}
use Rattle.std.specs.Ordering.{nat_cmp}
use Rattle.std.specs.FinMap as map
use Rattle.sys_abi.specs.Names.{by_name, name_cmp}
use Rattle.shared_items.specs.declared.shared.FileImage.{FileImage}
use Rattle.image_codec.specs.KernelParts.{inserted, name_entry, named_entry}
use Rattle.image_codec.specs.KernelImages.{name_under}
use Rattle.image_codec.proofs.MadeMaps.{joined_option}

mapped-append : {X Y : Type 0} (f : X → Y) (xs ys : List X) → mapped f (xs ++ ys) ≡ mapped f xs ++ mapped f ys
mapped-append f [] ys = refl
mapped-append f (x ∷ xs) ys = ap (λ zs. f x ∷ zs) (mapped-append f xs ys)

flat_map-append : {X Y : Type 0} (f : X → List Y) (xs ys : List X) → flat_map f (xs ++ ys) ≡ flat_map f xs ++ flat_map f ys
flat_map-append f [] ys = refl
flat_map-append f (x ∷ xs) ys = ap (λ zs. f x ++ zs) (flat_map-append f xs ys) ∙ sym (append_assoc (f x) (flat_map f xs) (flat_map f ys))

module _ {K V : Type 0} {R : K → K → Ordering} where
  -- all that is left, and nothing put in yet
  pub inserted_none : (es : List (K × V)) → inserted es (map.empty {R = R}) ≡ map.from_entries es
  inserted_none [] = refl
  inserted_none (e ∷ es) = ap (λ m. map.insert m e.0 e.1) (inserted_none es)

  pub inserted-append : (es fs : List (K × V)) (m : map.FinMap R V) → inserted (es ++ fs) m ≡ inserted es (inserted fs m)
  inserted-append [] fs m = refl
  inserted-append (e ∷ es) fs m = ap (λ n. map.insert n e.0 e.1) (inserted-append es fs m)

  -- one turn: of what is left, the last item is put in
  pub inserted_one : {X : Type 0} (f : X → K × V) (before after : List X) (x : X) (m n : map.FinMap R V) → before ≡ after ++ x ∷ [] → n ≡ map.insert m (f x).0 (f x).1
      → inserted (mapped f after) n ≡ inserted (mapped f before) m
  inserted_one f before after x m n last put =
      ap (inserted (mapped f after)) put ∙ sym (inserted-append (mapped f after) (f x ∷ []) m) ∙ ap (λ es. inserted es m) (sym (ap (mapped f) last ∙ mapped-append f after (x ∷ [])))

  -- the same where an item gives several entries
  pub inserted_group : {X : Type 0} (f : X → List (K × V)) (before after : List X) (x : X) (m n : map.FinMap R V) → before ≡ after ++ x ∷ [] → n ≡ inserted (f x) m
      → inserted (flat_map f after) n ≡ inserted (flat_map f before) m
  inserted_group f before after x m n last put =
      ap (inserted (flat_map f after)) put ∙ sym (inserted-append (flat_map f after) (f x) m)
      ∙ ap (λ es. inserted es m) (sym (ap (flat_map f) last ∙ flat_map-append f after (x ∷ []) ∙ ap (λ es. flat_map f after ++ es) (append-nil (f x))))

-- a name that is the last of those that are left, put in under its number
pub name_put : {A : Type 0} (before after : List (Vec ℕ A × ℕ)) (name : Vec ℕ A) (number : ℕ) (copy : List ℕ) (m n : map.FinMap nat_cmp (List ℕ)) → before ≡ after ++ (name, number) ∷ [] → copy ≡ name.items → n ≡ map.insert m number copy
    → inserted (mapped name_under (by_name after)) n ≡ inserted (mapped name_under (by_name before)) m
name_put before after name number copy m n last same put =
    inserted_one name_under (by_name before) (by_name after) (name.items, number) m n (ap by_name last ∙ mapped-append (λ e. (e.0.items, e.1)) after ((name, number) ∷ [])) (put ∙ ap (map.insert m number) same)

-- an item that gives an entry or none
filtered : {X Y : Type 0} (f : X → Option Y) (xs : List X) → filter_map f xs ≡ flat_map (λ x. cons_option (f x) []) xs
filtered f [] = refl
filtered f (x ∷ xs) = joined_option (f x) (filter_map f xs) ∙ ap (λ ys. cons_option (f x) [] ++ ys) (filtered f xs)

pub inserted_some : {K V X : Type 0} {R : K → K → Ordering} (f : X → Option (K × V)) (before after : List X) (x : X) (m n : map.FinMap R V) → before ≡ after ++ x ∷ [] → n ≡ inserted (cons_option (f x) []) m
    → inserted (filter_map f after) n ≡ inserted (filter_map f before) m
inserted_some f before after x m n last put =
    ap (λ es. inserted es n) (filtered f after) ∙ inserted_group (λ y. cons_option (f y) []) before after x m n last put ∙ ap (λ es. inserted es m) (sym (filtered f before))

-- a file's name, if it has one
pub unnamed : (image : FileImage) (m : map.FinMap name_cmp ℕ) → image.name ≡ [] → m ≡ inserted (cons_option (name_entry image) []) m
unnamed image m none = ap (λ name. inserted (cons_option (named_entry name image.number) []) m) (sym none)

pub named : (image : FileImage) (m n : map.FinMap name_cmp ℕ) (name : List ℕ) (number : ℕ) → (image.name ≡ [] → ⊥) → name ≡ image.name → number ≡ image.number → n ≡ map.insert m name number → n ≡ inserted (cons_option (name_entry image) []) m
named image m n name number some same numbered put =
    put ∙ (λ i. map.insert m (same i) (numbered i)) ∙ ap (λ found. inserted (cons_option found []) m) (sym (entry image.name some))
  where
    entry : (bytes : List ℕ) → (bytes ≡ [] → ⊥) → named_entry bytes image.number ≡ Some (bytes, image.number)
    entry [] none = absurd (none refl)
    entry (byte ∷ bytes) some = refl
