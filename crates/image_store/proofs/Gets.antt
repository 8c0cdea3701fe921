-- What a store reads of the folder that it fits.
--     last_is, last_generation      the set that counts, and its generation
--     none_set           no set counts
--     has_found, set_found          the set that counts in both wordings
--     fits_still         a store goes on to fit while nothing changes
use Rattle.std.proofs.Common.{◌≡◌, ◌⊎◌, ℕ, inl, inr, List, sym, ap, subst, ◌∙◌}
use Rattle.std.specs.Prelude.{Bool, true, false, if◌then◌else◌, nat_lt, Option, Some, None, IfSome, option_map}
use Rattle.std.proofs.lemmas.Option.{same_Some}
use Rattle.disk_folder.specs.Files.{FolderFiles}
use Rattle.disk_folder.specs.Crash.{Same}
use Rattle.disk_folder.specs.Moments.{Passes}
use Rattle.disk_folder.specs.SeenFolder.{SeenFolder}
use Rattle.image_store.specs.Slots.{manifest_of, generation_of, info_of, later, last}
use Rattle.image_store.specs.FoundSets.{set_of, last_set, IsSet, HasSet}
use Rattle.image_format.specs.declared.damage.Damage.{Damage as Place}
use Rattle.image_store.specs.SetDamages.{IsFirstDamage, HasDamage}
use Rattle.image_store.specs.StoreStates.{Known, FitsFiles}
use Rattle.image_store.specs.declared.set_info.SetInfo.{SetInfo}
use Rattle.image_store.proofs.ManifestFronts.{info_some}
use Rattle.image_store.proofs.LastSets.{last_set_is}
use Rattle.image_store.proofs.Passing.{settled_same}

one_of : (b : Bool) (x y i : SetInfo) → (if b then Some y else Some x) ≡ Some i → (Some x ≡ Some i) ⊎ (Some y ≡ Some i)
one_of true x y i is = inr is
one_of false x y i is = inl is

later_one : (a b : Option SetInfo) (i : SetInfo) → later a b ≡ Some i → (a ≡ Some i) ⊎ (b ≡ Some i)
unfolding later
later_one None b i is = inr is
later_one (Some x) None i is = inl is
later_one (Some x) (Some y) i is = one_of (nat_lt x.generation y.generation) x y i is

in_manifest : (files : FolderFiles) (slot : ℕ) (info : SetInfo) → info_of slot (manifest_of files slot) ≡ Some info → generation_of (manifest_of files info.slot) ≡ info.generation
in_manifest files slot info is =
    let some = info_some slot (manifest_of files slot) info is in
    ap (λ s. generation_of (manifest_of files s)) some.0 ∙ some.1

pub last_generation : (files : FolderFiles) (info : SetInfo) → last files ≡ Some info → generation_of (manifest_of files info.slot) ≡ info.generation
unfolding last
last_generation files info is = elim (later_one (info_of 0 (manifest_of files 0)) (info_of 1 (manifest_of files 1)) info is) [
  | inl first ↦ in_manifest files 0 info first
  | inr second ↦ in_manifest files 1 info second
]

pub last_is : (store : Known) (files : FolderFiles) (outcomes : FolderFiles → Type 0) (inside found : Option SetInfo) → FitsFiles store files outcomes → inside ≡ store.last → inside ≡ found → last files ≡ found
last_is store files outcomes inside found fits same is = fits.last ∙ sym same ∙ is

pub none_set : (files : FolderFiles) (n : ℕ) (bytes : List (List ℕ)) → last files ≡ None → HasSet (last_set files) n bytes → ⊥
unfolding last_set
none_set files n bytes none (set, is, whole) = let nothing : last_set files ≡ None = ap (option_map (set_of files)) none in (cc)

pub has_found : (files : FolderFiles) (info : SetInfo) (found : Option SetInfo) (bytes : List (List ℕ)) → last files ≡ Some info → found ≡ Some info → IsSet (set_of files info) info.generation bytes → IfSome found (λ i. HasSet (last_set files) i.generation bytes)
has_found files info found bytes is same set =
    let P : Option SetInfo → Type 0 = λ o. IfSome o (λ i. HasSet (last_set files) i.generation bytes) in
    subst P (sym same) (set_of files info, last_set_is files info is, set)

pub set_found : (files : FolderFiles) (info : SetInfo) (n : ℕ) (bytes : List (List ℕ)) → last files ≡ Some info → HasSet (last_set files) n bytes → IsSet (set_of files info) n bytes
set_found files info n bytes is (set, found, whole) =
    subst (λ s. IsSet s n bytes) (same_Some set (set_of files info) (sym found ∙ last_set_is files info is)) whole

-- the same of its damage
pub no_damage_none : (files : FolderFiles) (damage : Place) → last files ≡ None → HasDamage (last_set files) damage → ⊥
unfolding last_set
no_damage_none files damage none (set, is, there) = let nothing : last_set files ≡ None = ap (option_map (set_of files)) none in (cc)

pub damage_found_set : (files : FolderFiles) (info : SetInfo) (damage : Place) → last files ≡ Some info → HasDamage (last_set files) damage → IsFirstDamage (set_of files info) damage
damage_found_set files info damage is (set, found, there) =
    subst (λ s. IsFirstDamage s damage) (same_Some set (set_of files info) (sym found ∙ last_set_is files info is)) there

pub fits_still : {a b : SeenFolder} (store : Known) (files : FolderFiles) → Passes Same a b → FitsFiles store files a.may_leave → FitsFiles store files b.may_leave
fits_still store files stretch fits = record { settled = settled_same files stretch fits.settled; first = fits.first; second = fits.second; last = fits.last }
