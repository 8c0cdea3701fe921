-- A set spells one state at most, and a state has one set of a generation at most
use Rattle.std.proofs.Common.{◌≡◌, ℕ, ◌+◌, List, [], ◌∷◌, length, map as mapped, refl, sym, ap, subst, ◌∙◌}
use Rattle.std.specs.FinMap as map
use Rattle.sys_abi.specs.Orders.{vpid_cmp}
use Rattle.plain_machine.specs.declared.plain.Plain.{Plain}
use Rattle.image_format.specs.declared.manifest.Manifest.{Manifest}
use Rattle.image_process.specs.declared.process_image.ProcImage.{ProcImage}
use Rattle.shared_items.specs.declared.shared.Shared.{Shared}
use Rattle.image_process.specs.ProcessImages.{pid_at, tids_at}
use Rattle.image_format.specs.Manifests.{SpellsManifest}
use Rattle.shared_items.specs.SharedFits.{IsShared}
use Rattle.image_codec.specs.Sets.{SpellsImages, SpellsFiles, IsStateOf, user_entry, OneStateOfSet, OneSetOfState}
use Rattle.image_codec.proofs.KernelLaws.{only_image}
use Rattle.image_format.proofs.ManifestLaws as manifest
use Rattle.shared_items.proofs.SharedLaws as shared_image
use Rattle.image_process.proofs.ProcessFiles as process_image
use Rattle.image_codec.proofs.UserImages.{image_of, only_images}

one_of_images : (shared : Shared) (file : ℕ) (texts : List (List ℕ)) (images others : List ProcImage) → SpellsImages shared file texts images → SpellsImages shared file texts others → images ≡ others
unfolding SpellsImages
one_of_images shared file [] [] [] h g = refl
one_of_images shared file [] (image ∷ images) others h g = absurd h
one_of_images shared file [] [] (other ∷ others) h g = absurd g
one_of_images shared file (text ∷ texts) [] others h g = absurd h
one_of_images shared file (text ∷ texts) (image ∷ images) [] h g = absurd g
one_of_images shared file (text ∷ texts) (image ∷ images) (other ∷ others) h g =
    let one = (process_image.laws (pid_at shared file) (tids_at shared file)).one_value text image other h.0 g.0 in
    let rest = one_of_images shared (file + 1) texts images others h.1 g.1 in
    λ i. one i ∷ rest i

one_of_files : (files : List (List ℕ)) (shared other : Shared) (images others : List ProcImage) → SpellsFiles files shared images → SpellsFiles files other others → (shared ≡ other) × (images ≡ others)
unfolding SpellsFiles
one_of_files [] shared other images others h g = absurd h
one_of_files (first ∷ texts) shared other images others h g =
    let same : shared ≡ other = shared_image.laws.one_value first shared other h.0 g.0 in
    (same, one_of_images shared 2 texts images others h.2 (subst (λ (s : Shared). SpellsImages s 2 texts others) (sym same) g.2))

same_state : (shared : Shared) (images : List ProcImage) (state other : Plain) → IsStateOf shared images state → IsStateOf shared images other → state ≡ other
same_state shared images state other h g =
    let kernel : state.kernel ≡ other.kernel = h.kernel ∙ sym g.kernel in
    let users : state.users ≡ other.users = h.users ∙ sym g.users in
    λ i. record { kernel = kernel i; users = users i }

abbrev manifest_of : ℕ → List (List ℕ) → Manifest
manifest_of g files = record { generation = g; lengths = mapped length files }

pub one_state_of_set : OneStateOfSet
one_state_of_set text files g h state other s t =
    let named : manifest_of g files ≡ manifest_of h files = manifest.laws.one_value text (manifest_of g files) (manifest_of h files) s.named t.named in
    let (shared, images) = one_of_files files s.shared t.shared s.images t.images s.spelled t.spelled in (
      ap (λ (m : Manifest). m.generation) named,
      same_state s.shared s.images state other s.stands
          (subst (λ (i : List ProcImage). IsStateOf s.shared i other) (sym images) (subst (λ (k : Shared). IsStateOf k t.images other) (sym shared) t.stands)),
    )

-- back from a state: its kernel part has one shared image, and its processes have one list of images
one_text_of_images : (shared : Shared) (file : ℕ) (texts others : List (List ℕ)) (images : List ProcImage) → SpellsImages shared file texts images → SpellsImages shared file others images → texts ≡ others
unfolding SpellsImages
one_text_of_images shared file [] [] [] h g = refl
one_text_of_images shared file [] others (image ∷ images) h g = absurd h
one_text_of_images shared file (text ∷ texts) [] (image ∷ images) h g = absurd g
one_text_of_images shared file [] (other ∷ others) [] h g = absurd g
one_text_of_images shared file (text ∷ texts) others [] h g = absurd h
one_text_of_images shared file (text ∷ texts) (other ∷ others) (image ∷ images) h g =
    let one = (process_image.laws (pid_at shared file) (tids_at shared file)).one_text text other image h.0 g.0 in
    let rest = one_text_of_images shared (file + 1) texts others images h.1 g.1 in
    λ i. one i ∷ rest i

one_text_of_files : (files others : List (List ℕ)) (shared : Shared) (images : List ProcImage) → SpellsFiles files shared images → SpellsFiles others shared images → files ≡ others
unfolding SpellsFiles
one_text_of_files [] others shared images h g = absurd h
one_text_of_files (first ∷ texts) [] shared images h g = absurd g
one_text_of_files (first ∷ texts) (other ∷ others) shared images h g =
    let one = shared_image.laws.one_text first other shared h.0 g.0 in
    let rest = one_text_of_images shared 2 texts others images h.2 g.2 in
    λ i. one i ∷ rest i

record IsMade (shared : Shared) (images : List ProcImage) : Type 0 where
  spelled : IsShared shared
  made : mapped image_of (map.entries (map.from_entries {R = vpid_cmp} (mapped user_entry images))) ≡ images

files_made : (files : List (List ℕ)) (shared : Shared) (images : List ProcImage) → SpellsFiles files shared images → IsMade shared images
unfolding SpellsFiles
files_made [] shared images h = absurd h
files_made (first ∷ texts) shared images h =
    let spelled = (shared_image.text_of first shared h.0).keeps in
    record { spelled = spelled; made = only_images shared spelled.fields texts images h.2 }

pub one_set_of_state : OneSetOfState
one_set_of_state text other files others g state s t =
    let one = files_made files s.shared s.images s.spelled in
    let two = files_made others t.shared t.images t.spelled in
    let shared : s.shared ≡ t.shared =
    sym (only_image s.shared state.kernel (record { spelled = one.spelled; kernel = sym s.stands.kernel })) ∙ only_image t.shared state.kernel (record { spelled = two.spelled; kernel = sym t.stands.kernel }) in
    let images : s.images ≡ t.images = sym one.made ∙ ap (λ m. mapped image_of (map.entries m)) (sym s.stands.users ∙ t.stands.users) ∙ two.made in
    let spelled : SpellsFiles others s.shared s.images =
    subst (λ (k : Shared). SpellsFiles others k s.images) (sym shared) (subst (SpellsFiles others t.shared) (sym images) t.spelled) in
    let same : files ≡ others = one_text_of_files files others s.shared s.images s.spelled spelled in
    (manifest.laws.one_text text other (manifest_of g files) s.named (subst (λ (fs : List (List ℕ)). SpellsManifest other (manifest_of g fs)) (sym same) t.named), same)
