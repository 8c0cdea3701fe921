-- What a folder's set spells, it spells in one way, and no set both spells a state and is damaged.
use Rattle.std.proofs.Common.{◌≡◌, ℕ, List, Option, Some, None, inl, inr, refl, sym, ap, subst, ◌∙◌}
use Rattle.std.specs.Prelude.{◌⊎◌, option_map}
use Rattle.disk_folder.specs.Files.{FolderFiles}
use Rattle.plain_machine.specs.declared.plain.Plain.{Plain}
use Rattle.image_format.specs.declared.damage.Damage.{Damage}
use Rattle.image_process.specs.declared.process_image.ProcImage.{ProcImage}
use Rattle.shared_items.specs.declared.shared.Shared.{Shared}
use Rattle.image_codec.specs.Sets.{SpellsFiles, DamagedFiles}
use Rattle.image_codec.proofs.SetDamages.{files_apart, one_damage_of_files}
use Rattle.image_store.specs.Slots.{last}
use Rattle.image_store.specs.FoundSets.{FoundSet, set_of, last_set, IsSet, HasSet}
use Rattle.image_store.specs.SetDamages.{IsFirstDamage, HasDamage}
use Rattle.image_store.proofs.SetLaws.{one_set, apart, one_damage}
use Rattle.drive.specs.HandedOn.{SpellsSet, SpoilsSet}
use Rattle.dmtcp_top.specs.Promise.{OneDamage}

pub record SetLaws : Type 0 where
  pub one : (found : Option FoundSet) (g h : ℕ) (images others : List (List ℕ)) → HasSet found g images → HasSet found h others → images ≡ others
  pub whole : (found : Option FoundSet) (g : ℕ) (images : List (List ℕ)) (damage : Damage) → HasSet found g images → HasDamage found damage → ⊥
  pub apart : (images : List (List ℕ)) (file n : ℕ) (shared : Shared) (processes : List ProcImage) → SpellsFiles images shared processes → DamagedFiles images file n → ⊥

no_some : {A : Type 0} (a : A) → None ≡ Some a → ⊥
no_some a is = cc

-- where no set counts there is none to look into
no_set_there : (files : FolderFiles) (found : FoundSet) → last files ≡ None → last_set files ≡ Some found → ⊥
unfolding last_set
no_set_there files found none some = no_some found (sym (ap (option_map (set_of files)) none) ∙ some)

pub none_spelled : (files : FolderFiles) (generation : ℕ) (g : Plain) → last files ≡ None → SpellsSet files generation g → ⊥
none_spelled files generation g none spells = no_set_there files spells.counts.0 none spells.counts.1

pub none_spoilt : (files : FolderFiles) (slot : ℕ) (damage : Damage) → last files ≡ None → SpoilsSet files slot damage → ⊥
none_spoilt files slot damage none spoils = no_set_there files spoils.found none spoils.counts

pub spelled_or_spoilt : SetLaws → (files : FolderFiles) (generation : ℕ) (g : Plain) (slot : ℕ) (damage : Damage) → SpellsSet files generation g → SpoilsSet files slot damage → ⊥
spelled_or_spoilt laws files generation g slot damage spells spoils = by spoils.damaged
  where
    by : IsFirstDamage spoils.found damage ⊎ ((images : List (List ℕ)) × (IsSet spoils.found spoils.found.generation images × DamagedFiles images damage.file damage.offset)) → ⊥
    by (inl broken) = laws.whole (last_set files) generation spells.images damage spells.counts (spoils.found, spoils.counts, broken)
    by (inr (images, spoilt)) =
        let same : spells.images ≡ images = laws.one (last_set files) generation spoils.found.generation spells.images images spells.counts (spoils.found, spoils.counts, spoilt.0) in
        laws.apart images damage.file damage.offset spells.state.shared spells.state.processes (subst (λ files. SpellsFiles files spells.state.shared spells.state.processes) same spells.state.spelled) spoilt.1

pub set_laws : SetLaws
set_laws = record {
  one = λ found g h images others first second. (one_set found g h images others first second).1;
  whole = apart;
  apart = files_apart;
}

inside : {A : Type 0} (a b : A) → Some a ≡ Some b → a ≡ b
inside a b is = cc

abbrev Spoils : FoundSet → Damage → Type 0
Spoils found damage = IsFirstDamage found damage ⊎ ((images : List (List ℕ)) × (IsSet found found.generation images × DamagedFiles images damage.file damage.offset))

-- of one set that was found
one_of_found : (found : FoundSet) (damage other : Damage) → Spoils found damage → Spoils found other → damage ≡ other
one_of_found found damage other (inl first) (inl second) = one_damage (Some found) damage other (found, refl, first) (found, refl, second)
one_of_found found damage other (inl first) (inr (images, second)) = absurd (apart (Some found) found.generation images damage (found, refl, second.0) (found, refl, first))
one_of_found found damage other (inr (images, first)) (inl second) = absurd (apart (Some found) found.generation images other (found, refl, first.0) (found, refl, second))
one_of_found found damage other (inr (images, first)) (inr (others, second)) =
    let same : others ≡ images = (one_set (Some found) found.generation found.generation others images (found, refl, second.0) (found, refl, first.0)).1 in
    let place = one_damage_of_files images damage.file other.file damage.offset other.offset first.1 (subst (λ files. DamagedFiles files other.file other.offset) same second.1) in
    λ i. record { file = place.0 i; offset = place.1 i }

pub one_spoil : OneDamage
one_spoil files slot other damage beside first second =
    let same : second.found ≡ first.found = inside second.found first.found (sym second.counts ∙ first.counts) in (
      sym first.place ∙ ap (λ (found : FoundSet). found.slot) (sym same) ∙ second.place,
      one_of_found first.found damage beside first.damaged (subst (λ (found : FoundSet). Spoils found beside) same second.damaged),
    )
