-- The files of a set that spell its values are damaged nowhere, others at one first place.
use Rattle.std.proofs.Common.{◌≡◌, ◌≢◌, inl, inr, ℕ, ◌+◌, ◌<◌, List, [], ◌∷◌, length, refl, sym, ap, subst, ◌∙◌}
use Rattle.std.specs.Prelude.{◌⊎◌, All, slice_index}
use Rattle.std.specs.Cmp.{nat_cmp_total}
use Rattle.std.specs.FinMap.{nat_cmp-IsAntisymmetric}
use Rattle.std.proofs.lemmas.List.Elements.{All-head, All-tail}
use Rattle.views.proofs.MapLaws.{same_or_other}
use Rattle.image_process.specs.declared.process_image.ProcImage.{ProcImage}
use Rattle.shared_items.specs.declared.shared.Shared.{Shared}
use Rattle.image_process.specs.ProcessImages.{pid_at, tids_at, SpellsProcess, DamagedProcess}
use Rattle.shared_items.specs.SharedFormat.{SpellsShared, DamagedShared}
use Rattle.image_codec.specs.Sets.{SpellsImages, DamagedImages, SpellsFiles, DamagedFiles, live_count, FilesApart, FilesEither, OneDamageOfFiles}
use Rattle.shared_items.proofs.SharedLaws as shared_image
use Rattle.image_process.proofs.ProcessFiles as process_image

-- never both
images_apart : (shared : Shared) (file : ℕ) (texts : List (List ℕ)) (images : List ProcImage) (damaged n : ℕ) → SpellsImages shared file texts images → DamagedImages shared file texts damaged n → ⊥
unfolding SpellsImages DamagedImages
images_apart shared file [] images damaged n spelled broken = broken
images_apart shared file (text ∷ texts) [] damaged n spelled broken = spelled
images_apart shared file (text ∷ texts) (image ∷ images) damaged n spelled (inl (is, broken)) =
    (process_image.laws (pid_at shared file) (tids_at shared file)).apart text image n spelled.0 broken
images_apart shared file (text ∷ texts) (image ∷ images) damaged n spelled (inr (other, spells, later)) = images_apart shared (file + 1) texts images damaged n spelled.1 later

pub files_apart : FilesApart
unfolding SpellsFiles DamagedFiles
files_apart [] damaged n shared images spelled broken = spelled
files_apart (first ∷ texts) damaged n shared images spelled (inl (is, broken)) = shared_image.laws.apart first shared n spelled.0 broken
files_apart (first ∷ texts) damaged n shared images spelled (inr (inl (other, spells, differ, is, at))) =
    differ (spelled.1 ∙ ap live_count (shared_image.laws.one_value first shared other spelled.0 spells))
files_apart (first ∷ texts) damaged n shared images spelled (inr (inr (other, spells, same, broken))) =
    let one : shared ≡ other = shared_image.laws.one_value first shared other spelled.0 spells in
    images_apart shared 2 texts images damaged n spelled.2 (subst (λ (s : Shared). DamagedImages s 2 texts damaged n) (sym one) broken)

-- one place
one_damage_of_images : (shared : Shared) (file : ℕ) (texts : List (List ℕ)) (damaged other n m : ℕ) → DamagedImages shared file texts damaged n → DamagedImages shared file texts other m → (damaged ≡ other) × (n ≡ m)
unfolding DamagedImages
one_damage_of_images shared file [] damaged other n m h g = absurd h
one_damage_of_images shared file (text ∷ texts) damaged other n m (inl (is, broken)) (inl (is_too, broken_too)) =
    (is ∙ sym is_too, (process_image.laws (pid_at shared file) (tids_at shared file)).one_place text n m broken broken_too)
one_damage_of_images shared file (text ∷ texts) damaged other n m (inl (is, broken)) (inr (image, spells, later)) =
    absurd ((process_image.laws (pid_at shared file) (tids_at shared file)).apart text image n spells broken)
one_damage_of_images shared file (text ∷ texts) damaged other n m (inr (image, spells, later)) (inl (is, broken)) =
    absurd ((process_image.laws (pid_at shared file) (tids_at shared file)).apart text image m spells broken)
one_damage_of_images shared file (text ∷ texts) damaged other n m (inr (image, spells, later)) (inr (image_too, spells_too, later_too)) =
    one_damage_of_images shared (file + 1) texts damaged other n m later later_too

-- each way in which files are damaged excludes the others
module _ (first : List ℕ) (texts : List (List ℕ)) where
  miscounted : (shared other : Shared) → SpellsShared first shared → SpellsShared first other → length texts ≢ live_count shared → length texts ≡ live_count other → ⊥
  miscounted shared other spells spells_too differ same = differ (same ∙ ap live_count (shared_image.laws.one_value first other shared spells_too spells))

pub one_damage_of_files : OneDamageOfFiles
unfolding DamagedFiles
one_damage_of_files [] damaged other n m h g = (h.0 ∙ sym g.0, h.1 ∙ sym g.1)
one_damage_of_files (first ∷ texts) damaged other n m (inl (is, broken)) (inl (is_too, broken_too)) = (is ∙ sym is_too, shared_image.laws.one_place first n m broken broken_too)
one_damage_of_files (first ∷ texts) damaged other n m (inl (is, broken)) (inr (inl (shared, spells, differ, is_one, at))) = absurd (shared_image.laws.apart first shared n spells broken)
one_damage_of_files (first ∷ texts) damaged other n m (inl (is, broken)) (inr (inr (shared, spells, same, later))) = absurd (shared_image.laws.apart first shared n spells broken)
one_damage_of_files (first ∷ texts) damaged other n m (inr (inl (shared, spells, differ, is_one, at))) (inl (is, broken)) = absurd (shared_image.laws.apart first shared m spells broken)
one_damage_of_files (first ∷ texts) damaged other n m (inr (inr (shared, spells, same, later))) (inl (is, broken)) = absurd (shared_image.laws.apart first shared m spells broken)
one_damage_of_files (first ∷ texts) damaged other n m (inr (inl (shared, spells, differ, is, at))) (inr (inl (shared_too, spells_too, differ_too, is_too, at_too))) = (is ∙ sym is_too, at ∙ sym at_too)
one_damage_of_files (first ∷ texts) damaged other n m (inr (inl (shared, spells, differ, is_one, at))) (inr (inr (shared_too, spells_too, same, later))) = absurd (miscounted first texts shared shared_too spells spells_too differ same)
one_damage_of_files (first ∷ texts) damaged other n m (inr (inr (shared, spells, same, later))) (inr (inl (shared_too, spells_too, differ, is_one, at))) = absurd (miscounted first texts shared_too shared spells_too spells differ same)
one_damage_of_files (first ∷ texts) damaged other n m (inr (inr (shared, spells, same, later))) (inr (inr (shared_too, spells_too, same_too, later_too))) =
    let one : shared ≡ shared_too = shared_image.laws.one_value first shared shared_too spells spells_too in
    one_damage_of_images shared 2 texts damaged other n m later (subst (λ (s : Shared). DamagedImages s 2 texts other m) (sym one) later_too)

-- one of both
abbrev IsBytes : List ℕ → Type 0
IsBytes text = (i : ℕ) → slice_index text i < 256

abbrev ImagesEither : Shared → ℕ → List (List ℕ) → Type 0
ImagesEither shared file texts = ((images : List ProcImage) × SpellsImages shared file texts images) ⊎ ((damaged : ℕ) × (n : ℕ) × DamagedImages shared file texts damaged n)

-- one file more in front of others
image_and_rest : (shared : Shared) (file : ℕ) (text : List ℕ) (texts : List (List ℕ))
    → ((image : ProcImage) × SpellsProcess (pid_at shared file) (tids_at shared file) text image) ⊎ ((n : ℕ) × DamagedProcess (pid_at shared file) (tids_at shared file) text n)
    → ImagesEither shared (file + 1) texts → ImagesEither shared file (text ∷ texts)
unfolding SpellsImages DamagedImages
image_and_rest shared file text texts (inl (image, spells)) (inl (images, more)) = inl (image ∷ images, (spells, more))
image_and_rest shared file text texts (inl (image, spells)) (inr (damaged, n, broken)) = inr (damaged, n, inr (image, spells, broken))
image_and_rest shared file text texts (inr (n, broken)) rest = inr (file, n, inl (refl, broken))

images_either : (shared : Shared) (file : ℕ) (texts : List (List ℕ)) → All IsBytes texts → ImagesEither shared file texts
unfolding SpellsImages
images_either shared file [] bytes = inl ([], tt)
images_either shared file (text ∷ texts) bytes =
    image_and_rest shared file text texts ((process_image.laws (pid_at shared file) (tids_at shared file)).either text (All-head IsBytes text texts bytes))
    (images_either shared (file + 1) texts (All-tail IsBytes text texts bytes))

pub files_either : FilesEither
unfolding SpellsFiles DamagedFiles
files_either [] bytes = inr (1, 0, (refl, refl))
files_either (first ∷ texts) bytes = by (shared_image.laws.either first (All-head IsBytes first texts bytes))
  where
    counted : (shared : Shared) → SpellsShared first shared → length texts ≡ live_count shared → ImagesEither shared 2 texts
        → ((shared : Shared) × (images : List ProcImage) × SpellsFiles (first ∷ texts) shared images) ⊎ ((damaged : ℕ) × (n : ℕ) × DamagedFiles (first ∷ texts) damaged n)
    counted shared spells same (inl (images, more)) = inl (shared, images, (spells, same, more))
    counted shared spells same (inr (damaged, n, broken)) = inr (damaged, n, inr (inr (shared, spells, same, broken)))

    spelled : (shared : Shared) → SpellsShared first shared → (length texts ≡ live_count shared) ⊎ (length texts ≢ live_count shared)
        → ((shared : Shared) × (images : List ProcImage) × SpellsFiles (first ∷ texts) shared images) ⊎ ((damaged : ℕ) × (n : ℕ) × DamagedFiles (first ∷ texts) damaged n)
    spelled shared spells (inl same) = counted shared spells same (images_either shared 2 texts (All-tail IsBytes first texts bytes))
    spelled shared spells (inr differ) = inr (1, length first, inr (inl (shared, spells, differ, refl, refl)))

    by : ((shared : Shared) × SpellsShared first shared) ⊎ ((n : ℕ) × DamagedShared first n)
        → ((shared : Shared) × (images : List ProcImage) × SpellsFiles (first ∷ texts) shared images) ⊎ ((damaged : ℕ) × (n : ℕ) × DamagedFiles (first ∷ texts) damaged n)
    by (inl (shared, spells)) = spelled shared spells (same_or_other nat_cmp_total nat_cmp-IsAntisymmetric (length texts) (live_count shared))
    by (inr (n, broken)) = inr (1, n, inl (refl, broken))
