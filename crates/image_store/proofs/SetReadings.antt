-- A set that is read, and one that is whole or damaged.
--     only_manifest, damaged_manifest      at a manifest that was not read
--     only_lengths, damaged_lengths        at a length that is another
--     found_set, only_set                  at the end
use Rattle.std.proofs.Common.{◌≡◌, ℕ, suc, inl, inr, List, [], ◌∷◌, length, refl, sym, ap, subst, ◌∙◌, arith}
use Rattle.std.specs.Prelude.{Bool, true, false, if◌then◌else◌, ◌==◌, Option, Some, None, map, Result, Err}
use Rattle.std.proofs.lemmas.Bool.Decides.{nat_tests}
use Rattle.std.specs.Option.{option_or}
use Rattle.disk_folder.specs.Files.{FolderFiles}
use Rattle.image_format.specs.declared.damage.Damage.{Damage as Place}
use Rattle.image_format.specs.declared.manifest.Manifest.{Manifest}
use Rattle.image_format.specs.declared.set_bytes.SetBytes.{SetBytes}
use Rattle.image_format.specs.Manifests.{SpellsManifest, DamagedManifest}
use Rattle.image_store.specs.Slots.{manifest_of, generation_of, file_count}
use Rattle.image_store.specs.FoundSets.{file_at, files_from, set_of, IsSet}
use Rattle.image_store.specs.SetDamages.{damage_at, damage_from, IsFirstDamage}
use Rattle.image_store.specs.StoreCauses.{IsOutside, IsOfReading, IsOrOutside, TellsDamage}
use Rattle.image_store.specs.declared.set_info.SetInfo.{SetInfo}
use Rattle.image_store.specs.declared.store_fault.StoreFault.{StoreFault}
use Rattle.image_store.specs.declared.store_fault.StoreFault.TheVariants.{DiskFault, NoSet, Damaged, Memory}
use Rattle.image_store.proofs.ManifestFronts.{spelled_count, spelled_generation}

-- a refusal that is passed on
refused : (r : Result SetBytes StoreFault) (fault : StoreFault) (bytes : List (List ℕ)) → r ≡ Err fault → IsOutside fault → IsOrOutside r bytes
refused r fault bytes is outside = subst (λ x. IsOrOutside x bytes) (sym is) outside

same_fault : {A : Type 0} (r : Result A StoreFault) (fault other : StoreFault) → r ≡ Err fault → r ≡ Err other → fault ≡ other
same_fault r fault other is also = (cc)

no_damage : (n : ℕ) (b : Bool) (place : Place) → b ≡ true → (if b then None else Some place) ≡ None
no_damage n true place is = refl
no_damage n false place is = (cc)

fits : (index : ℕ) (bytes : List ℕ) → damage_at index (length bytes) (Some bytes) ≡ None
unfolding damage_at
fits index bytes = no_damage 0 (length bytes == length bytes) _ (grind (arith, nat_tests))

pub whole_none : (index : ℕ) (bytes : List (List ℕ)) → damage_from index (map length bytes) (map Some bytes) ≡ None
whole_none index [] = refl
whole_none index (file ∷ bytes) = ap (λ d. option_or d (damage_from (suc index) (map length bytes) (map Some bytes))) (fits index file) ∙ whole_none (suc index) bytes

pub same_somes : (xs ys : List (List ℕ)) → map Some xs ≡ map Some ys → xs ≡ ys
same_somes [] [] is = refl
same_somes [] (y ∷ ys) is = (cc)
same_somes (x ∷ xs) [] is = (cc)
same_somes (x ∷ xs) (y ∷ ys) is = let rest : map Some xs ≡ map Some ys = cc in let more = same_somes xs ys rest in let one : x ≡ y = cc in (λ i. one i ∷ more i)

module _ (files : FolderFiles) (info : SetInfo) where
  abbrev text : List ℕ
  text = manifest_of files info.slot

  -- the set, in its parts
  spelled_of : (g : ℕ) (bytes : List (List ℕ)) → IsSet (set_of files info) g bytes → SpellsManifest text (record { generation = g; lengths = map length bytes })
  unfolding set_of
  spelled_of g bytes set = set.manifest

  files_of : (g : ℕ) (bytes : List (List ℕ)) → IsSet (set_of files info) g bytes → files_from (file_at files info.slot) 1 (file_count text) ≡ map Some bytes
  unfolding set_of
  files_of g bytes set = set.files

  -- the number of files that the manifest names
  count_is : (m : Manifest) → SpellsManifest text m → files_from (file_at files info.slot) 1 (length m.lengths) ≡ files_from (file_at files info.slot) 1 (file_count text)
  count_is m spelled = ap (files_from (file_at files info.slot) 1) (sym (spelled_count text m spelled))

  pub only_manifest : (r : Result SetBytes StoreFault) (y fault : StoreFault) → r ≡ Err y → y ≡ fault → ((m : Manifest) → SpellsManifest text m → IsOutside fault) → (g : ℕ) (bytes : List (List ℕ)) → IsSet (set_of files info) g bytes → IsOrOutside r bytes
  only_manifest r y fault is same only g bytes set = refused r fault bytes (is ∙ ap Err same) (only _ (spelled_of g bytes set))

  pub damaged_manifest : (r : Result SetBytes StoreFault) (y fault : StoreFault) (d : Place) → r ≡ Err y → y ≡ fault → (fault ≡ Damaged d → (d.file ≡ 0) × DamagedManifest text d.offset) → r ≡ Err (Damaged d) → IsFirstDamage (set_of files info) d
  unfolding set_of
  damaged_manifest r y fault d is same damaged found = inl (damaged (same_fault r fault (Damaged d) (is ∙ ap Err same) found))

  tells_none : (fault : StoreFault) (damage : Option Place) → TellsDamage {A = Unit} (Err fault) damage → damage ≡ None → IsOfReading fault → IsOutside fault
  tells_none DiskFault damage tells none reading = tt
  tells_none NoSet damage tells none reading = reading
  tells_none (Damaged d) damage tells none reading = (cc)
  tells_none Memory damage tells none reading = tt

  whole_lengths : (m : Manifest) (g : ℕ) (bytes : List (List ℕ)) → SpellsManifest text m → m ≡ record { generation = g; lengths = map length bytes } → IsSet (set_of files info) g bytes → damage_from 1 m.lengths (files_from (file_at files info.slot) 1 (length m.lengths)) ≡ None
  whole_lengths m g bytes spelled same set =
      (λ i. damage_from 1 (same i).lengths ((count_is m spelled ∙ files_of g bytes set) i)) ∙ whole_none 1 bytes

  pub only_lengths : (m : Manifest) (r : Result SetBytes StoreFault) (y fault : StoreFault) → SpellsManifest text m → ((n : Manifest) → SpellsManifest text n → m ≡ n) → r ≡ Err y → y ≡ fault → TellsDamage {A = Unit} (Err fault) (damage_from 1 m.lengths (files_from (file_at files info.slot) 1 (length m.lengths))) → IsOfReading fault → (g : ℕ) (bytes : List (List ℕ)) → IsSet (set_of files info) g bytes → IsOrOutside r bytes
  only_lengths m r y fault spelled only is same tells reading g bytes set =
      refused r fault bytes (is ∙ ap Err same) (tells_none fault _ tells (whole_lengths m g bytes spelled (only _ (spelled_of g bytes set)) set) reading)

  pub damaged_lengths : (m : Manifest) (r : Result SetBytes StoreFault) (y fault : StoreFault) (d : Place) → SpellsManifest text m → r ≡ Err y → y ≡ fault → TellsDamage {A = Unit} (Err fault) (damage_from 1 m.lengths (files_from (file_at files info.slot) 1 (length m.lengths))) → r ≡ Err (Damaged d) → IsFirstDamage (set_of files info) d
  unfolding set_of
  damaged_lengths m r y fault d spelled is same tells found =
      let named = same_fault r fault (Damaged d) (is ∙ ap Err same) found in
      let told : TellsDamage {A = Unit} (Err (Damaged d)) (damage_from 1 m.lengths (files_from (file_at files info.slot) 1 (length m.lengths))) = subst (λ e. TellsDamage {A = Unit} (Err e) (damage_from 1 m.lengths (files_from (file_at files info.slot) 1 (length m.lengths)))) named tells in
      inr (m, spelled, ap (damage_from 1 m.lengths) (sym (count_is m spelled)) ∙ told)

  same_manifest : (m : Manifest) (g : ℕ) (lengths : List ℕ) → m.generation ≡ g → m.lengths ≡ lengths → m ≡ record { generation = g; lengths = lengths }
  same_manifest m g lengths first second = λ i. record { generation = first i; lengths = second i }

  pub found_set : (m : Manifest) (images : List (List ℕ)) → SpellsManifest text m → generation_of text ≡ info.generation → map length images ≡ m.lengths → files_from (file_at files info.slot) 1 (length m.lengths) ≡ map Some images → IsSet (set_of files info) info.generation images
  unfolding set_of
  found_set m images spelled generation lengths read = record {
    generation = refl;
    manifest = subst (SpellsManifest text) (same_manifest m info.generation (map length images) (sym (spelled_generation text m spelled) ∙ generation) (sym lengths)) spelled;
    files = sym (count_is m spelled) ∙ read;
  }

  pub only_set : (m : Manifest) (images : List (List ℕ)) → SpellsManifest text m → files_from (file_at files info.slot) 1 (length m.lengths) ≡ map Some images → (g : ℕ) (bytes : List (List ℕ)) → IsSet (set_of files info) g bytes → images ≡ bytes
  only_set m images spelled read g bytes set = same_somes images bytes (sym read ∙ count_is m spelled ∙ files_of g bytes set)
