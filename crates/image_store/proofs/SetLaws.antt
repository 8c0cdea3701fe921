-- A set is whole in one way or damaged at one place, and not both.
--     one_set, apart, one_damage      what a folder's set is, is so in one way
--     broken_answer      a set that is damaged is read as that damage
use Rattle.std.proofs.Common.{◌≡◌, ℕ, inl, inr, List, length, refl, sym, ap, subst, ◌∙◌}
use Rattle.std.specs.Prelude.{Option, Some, None, map, Result, Ok, Err, IfOk, IfErr}
use Rattle.std.proofs.lemmas.Option.{same_Some}
use Rattle.image_format.specs.declared.damage.Damage.{Damage as Place}
use Rattle.image_format.specs.declared.manifest.Manifest.{Manifest}
use Rattle.image_format.specs.declared.set_bytes.SetBytes.{SetBytes}
use Rattle.image_format.specs.Manifests.{SpellsManifest}
use Rattle.image_format.proofs.ManifestLaws.{laws}
use Rattle.image_store.specs.FoundSets.{FoundSet, IsSet, HasSet}
use Rattle.image_store.specs.SetDamages.{damage_from, IsFirstDamage, HasDamage}
use Rattle.image_store.specs.StoreCauses.{IsOfReading, IsDamageOrOutside}
use Rattle.image_store.specs.declared.store_fault.StoreFault.{StoreFault}
use Rattle.image_store.specs.declared.store_fault.StoreFault.TheVariants.{DiskFault, NoSet, Damaged, Memory}
use Rattle.image_store.proofs.SetReadings.{same_somes, whole_none}

module _ (found : FoundSet) where
  pub same_set : (g h : ℕ) (bytes others : List (List ℕ)) → IsSet found g bytes → IsSet found h others → (g ≡ h) × (bytes ≡ others)
  same_set g h bytes others first second = (sym first.generation ∙ second.generation, same_somes bytes others (sym first.files ∙ second.files))

  no_damage : (m : Manifest) (g : ℕ) (bytes : List (List ℕ)) → IsSet found g bytes → SpellsManifest found.manifest m → damage_from 1 m.lengths found.files ≡ None
  no_damage m g bytes set spelled =
      let same : m ≡ record { generation = g; lengths = map length bytes } = laws.one_value found.manifest m _ spelled set.manifest in
      (λ i. damage_from 1 (same i).lengths (set.files i)) ∙ whole_none 1 bytes

  pub whole_apart : (g : ℕ) (bytes : List (List ℕ)) (d : Place) → IsSet found g bytes → IsFirstDamage found d → ⊥
  whole_apart g bytes d set (inl manifest) = laws.apart found.manifest _ d.offset set.manifest manifest.1
  whole_apart g bytes d set (inr (m, spelled, damage)) = let none = no_damage m g bytes set spelled in (cc)

  same_place : (d e : Place) → d.file ≡ 0 → e.file ≡ 0 → d.offset ≡ e.offset → d ≡ e
  same_place d e first second offset = λ i. record { file = (first ∙ sym second) i; offset = offset i }

  same_damage : (m n : Manifest) (d e : Place) → m ≡ n → damage_from 1 m.lengths found.files ≡ Some d → damage_from 1 n.lengths found.files ≡ Some e → d ≡ e
  same_damage m n d e same first second = same_Some d e (sym first ∙ ap (λ (x : Manifest). damage_from 1 x.lengths found.files) same ∙ second)

  pub one_place : (d e : Place) → IsFirstDamage found d → IsFirstDamage found e → d ≡ e
  one_place d e (inl first) (inl second) = same_place d e first.0 second.0 (laws.one_place found.manifest d.offset e.offset first.1 second.1)
  one_place d e (inl first) (inr (m, spelled, damage)) = absurd (laws.apart found.manifest m d.offset spelled first.1)
  one_place d e (inr (m, spelled, damage)) (inl second) = absurd (laws.apart found.manifest m e.offset spelled second.1)
  one_place d e (inr (m, spelled, damage)) (inr (n, spells, other)) = same_damage m n d e (laws.one_value found.manifest m n spelled spells) damage other

  pub broken_answer : (g : ℕ) (r : Result SetBytes StoreFault) (d : Place) → IfOk r (λ set. IsSet found g set.files) → ((e : Place) → r ≡ Err (Damaged e) → IsFirstDamage found e) → IfErr r IsOfReading → IsFirstDamage found d → IsDamageOrOutside r d
  broken_answer g (Ok set) d is damaged reading damage = whole_apart g set.files d is damage
  broken_answer g (Err DiskFault) d is damaged reading damage = tt
  broken_answer g (Err NoSet) d is damaged reading damage = reading
  broken_answer g (Err (Damaged e)) d is damaged reading damage = one_place e d (damaged e refl) damage
  broken_answer g (Err Memory) d is damaged reading damage = tt

pub one_set : (found : Option FoundSet) (g h : ℕ) (bytes others : List (List ℕ)) → HasSet found g bytes → HasSet found h others → (g ≡ h) × (bytes ≡ others)
one_set found g h bytes others (set, is, whole) (other, also, second) =
    same_set set g h bytes others whole (subst (λ s. IsSet s h others) (same_Some other set (sym also ∙ is)) second)

pub apart : (found : Option FoundSet) (g : ℕ) (bytes : List (List ℕ)) (d : Place) → HasSet found g bytes → HasDamage found d → ⊥
apart found g bytes d (set, is, whole) (other, also, damage) =
    whole_apart set g bytes d whole (subst (λ s. IsFirstDamage s d) (same_Some other set (sym also ∙ is)) damage)

pub one_damage : (found : Option FoundSet) (d e : Place) → HasDamage found d → HasDamage found e → d ≡ e
one_damage found d e (set, is, first) (other, also, second) =
    one_place set d e first (subst (λ s. IsFirstDamage s e) (same_Some other set (sym also ∙ is)) second)
