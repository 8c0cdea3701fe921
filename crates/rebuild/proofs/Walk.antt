-- A walk over the files of processes: what is left to be read decides what all of them spell, and where they are damaged
use Rattle.std.proofs.Common.{◌≡◌, ℕ, ◌+◌, ◌<◌, ◌≤◌, inl, inr, List, [], ◌∷◌, ◌++◌, length, drop, get_or, refl, sym, ap, subst, ◌∙◌, append_assoc, append-nil, add-one, suc, Err, arith}
use Rattle.std.proofs.Math.Seq.{drop-cons}
use Rattle.std.specs.Prelude.{◌≢◌, nat_le, IsTrue}
use Rattle.std.proofs.lemmas.Bool.Decides.{nat_tests}
use Rattle.std.proofs.lemmas.List.{drop_all}
use Rattle.std.proofs.lemmas.List.Sums.{count_by-le-length}
use Rattle.shared_items.specs.declared.shared.ProcessEntry.{ProcessEntry}
use Rattle.image_process.specs.declared.process_image.ProcImage.{ProcImage}
use Rattle.shared_items.specs.declared.shared.Shared.{Shared}
use Rattle.image_process.specs.ProcessImages.{SpellsProcess, DamagedProcess, pid_at, tids_at}
use Rattle.image_format.specs.declared.damage.ReadFault.{ReadFault}
use Rattle.image_format.specs.declared.damage.ReadFault.TheVariants.{Damaged, Memory}
use Rattle.image_format.specs.Files.{IsRead, IsDamagedAt}
use Rattle.shared_items.specs.SharedFormat.{SpellsShared, DamagedShared}
use Rattle.shared_items.proofs.SharedLaws.{text_of}
use Rattle.image_codec.specs.Sets.{SpellsImages, DamagedImages, SpellsFiles, DamagedFiles, live_count}
use Rattle.rebuild.specs.declared.decode.Decoded.{Decoded}
use Rattle.rebuild.specs.Places.{IsDamageOf}
use Rattle.sys_abi.specs.Lives.{lives}

-- the images so far, with those of the files that are left, are those of all files, and no others are
pub record Continues (shared : Shared) (all : List (List ℕ)) (images : List ProcImage) (file : ℕ) (left : List (List ℕ)) : Type 0 where
  pub spelled : (rest : List ProcImage) → SpellsImages shared file left rest → SpellsImages shared 2 all (images ++ rest)
  pub only : (others : List ProcImage) → SpellsImages shared 2 all others → (rest : List ProcImage) × (others ≡ images ++ rest) × SpellsImages shared file left rest
  pub damaged : (damage n : ℕ) → DamagedImages shared file left damage n → DamagedImages shared 2 all damage n

pub begins : (shared : Shared) (all : List (List ℕ)) → Continues shared all [] 2 all
begins shared all = record {
  spelled = λ rest h. h;
  only = λ others h. (others, refl, h);
  damaged = λ damage n h. h;
}

-- what a file spells, if it is the next one
next_only : (shared : Shared) (file : ℕ) (text : List ℕ) (left : List (List ℕ)) (image : ProcImage) (others : List ProcImage)
    → ((other : ProcImage) → SpellsProcess (pid_at shared file) (tids_at shared file) text other → image ≡ other)
    → SpellsImages shared file (text ∷ left) others → (rest : List ProcImage) × (others ≡ image ∷ rest) × SpellsImages shared (file + 1) left rest
unfolding SpellsImages
next_only shared file text left image [] one h = absurd h
next_only shared file text left image (other ∷ others) one h = (others, ap (λ (p : ProcImage). p ∷ others) (sym (one other h.0)), h.1)

pub goes_on : (shared : Shared) (all : List (List ℕ)) (images : List ProcImage) (file : ℕ) (text : List ℕ) (left : List (List ℕ)) (image : ProcImage)
    → SpellsProcess (pid_at shared file) (tids_at shared file) text image
    → ((other : ProcImage) → SpellsProcess (pid_at shared file) (tids_at shared file) text other → image ≡ other)
    → Continues shared all images file (text ∷ left) → Continues shared all (images ++ image ∷ []) (file + 1) left
unfolding SpellsImages DamagedImages
goes_on shared all images file text left image spells one walk = record {
  spelled = λ rest h. subst (λ (l : List ProcImage). SpellsImages shared 2 all l) (sym (append_assoc images (image ∷ []) rest)) (walk.spelled (image ∷ rest) (spells, h));
  only = λ others h.
      let (rest, is, left_is) = walk.only others h in
      let (tail, tail_is, spelled) = next_only shared file text left image rest one left_is in
      (tail, is ∙ ap (λ (l : List ProcImage). images ++ l) tail_is ∙ sym (append_assoc images (image ∷ []) tail), spelled);
  damaged = λ damage n h. walk.damaged damage n (inr (image, spells, h));
}

-- no file is left
pub spells_all : (shared : Shared) (all : List (List ℕ)) (images : List ProcImage) (file : ℕ) → Continues shared all images file [] → SpellsImages shared 2 all images
unfolding SpellsImages
spells_all shared all images file walk = subst (λ (l : List ProcImage). SpellsImages shared 2 all l) (append-nil images) (walk.spelled [] tt)

none_left : (shared : Shared) (file : ℕ) (rest : List ProcImage) → SpellsImages shared file [] rest → rest ≡ []
unfolding SpellsImages
none_left shared file [] h = refl
none_left shared file (image ∷ rest) h = absurd h

pub only_all : (shared : Shared) (all : List (List ℕ)) (images : List ProcImage) (file : ℕ) → Continues shared all images file [] → (others : List ProcImage) → SpellsImages shared 2 all others → images ≡ others
only_all shared all images file walk others h =
    let (rest, is, left) = walk.only others h in
    sym (is ∙ ap (λ (l : List ProcImage). images ++ l) (none_left shared file rest left) ∙ append-nil images)

-- the next file is damaged
pub damaged_here : (shared : Shared) (all : List (List ℕ)) (images : List ProcImage) (file : ℕ) (text : List ℕ) (left : List (List ℕ)) (n : ℕ)
    → DamagedProcess (pid_at shared file) (tids_at shared file) text n → Continues shared all images file (text ∷ left) → DamagedImages shared 2 all file n
unfolding DamagedImages
damaged_here shared all images file text left n h walk = walk.damaged file n (inl (refl, h))

first_spelled : (shared : Shared) (file : ℕ) (text : List ℕ) (left : List (List ℕ)) (rest : List ProcImage) → SpellsImages shared file (text ∷ left) rest
    → (image : ProcImage) × SpellsProcess (pid_at shared file) (tids_at shared file) text image
unfolding SpellsImages
first_spelled shared file text left [] h = absurd h
first_spelled shared file text left (image ∷ rest) h = (image, h.0)

-- the next file spells nothing, so all of them spell nothing
pub none_spelled : (shared : Shared) (all : List (List ℕ)) (images : List ProcImage) (file : ℕ) (text : List ℕ) (left : List (List ℕ))
    → ((image : ProcImage) → SpellsProcess (pid_at shared file) (tids_at shared file) text image → ⊥) → Continues shared all images file (text ∷ left) → (others : List ProcImage) → SpellsImages shared 2 all others → ⊥
none_spelled shared all images file text left none walk others h =
    let (rest, is, spelled) = walk.only others h in
    let (image, first) = first_spelled shared file text left rest spelled in
    none image first

-- the files from a place on
pub left_at : (files : List (List ℕ)) (i : ℕ) (text : List ℕ) → i < length files → text ≡ get_or files i text → drop i files ≡ text ∷ drop (i + 1) files
left_at files i text h is = rw add-one (drop-cons files i text h ∙ ap (λ (t : List ℕ). t ∷ drop (suc i) files) (sym is))

pub none_at : (files : List (List ℕ)) (i : ℕ) → length files ≤ i → drop i files ≡ []
none_at files i h = drop_all i files h

-- the next file, as a loop over the files has it
pub next_at : (shared : Shared) (all : List (List ℕ)) (images : List ProcImage) (file i : ℕ) (item text : List ℕ) → i < length all → item ≡ get_or all i item → text ≡ item
    → Continues shared all images file (drop i all) → Continues shared all images file (text ∷ drop (i + 1) all)
next_at shared all images file i item text h is same walk =
    let left : drop i all ≡ text ∷ drop (i + 1) all = left_at all i item h is ∙ ap (λ (t : List ℕ). t ∷ drop (i + 1) all) (sym same) in
    subst (λ (l : List (List ℕ)). Continues shared all images file l) left walk

pub at_end : (shared : Shared) (all : List (List ℕ)) (images : List ProcImage) (file i : ℕ) → length all ≤ i → Continues shared all images file (drop i all) → Continues shared all images file []
at_end shared all images file i h walk = subst (λ (l : List (List ℕ)). Continues shared all images file l) (none_at all i h) walk

-- a fault on the way is one of the whole
pub fault_only : (shared : Shared) (all : List (List ℕ)) (images : List ProcImage) (file : ℕ) (text : List ℕ) (left : List (List ℕ)) (fault : ReadFault)
    → ((image : ProcImage) → SpellsProcess (pid_at shared file) (tids_at shared file) text image → IsRead (Err fault) image)
    → Continues shared all images file (text ∷ left) → (others : List ProcImage) → SpellsImages shared 2 all others → IsRead (Err fault) others
fault_only shared all images file text left (Damaged damage) none walk = none_spelled shared all images file text left none walk
fault_only shared all images file text left Memory none walk = λ others h. tt

pub fault_exact : (shared : Shared) (all : List (List ℕ)) (images : List ProcImage) (file : ℕ) (text : List ℕ) (left : List (List ℕ)) (fault : ReadFault)
    → IsDamagedAt {A = ProcImage} file (DamagedProcess (pid_at shared file) (tids_at shared file) text) (Err fault)
    → Continues shared all images file (text ∷ left) → IsDamageOf {A = List ProcImage} (DamagedImages shared 2 all) (Err fault)
fault_exact shared all images file text left (Damaged damage) h walk =
    subst (λ (f : ℕ). DamagedImages shared 2 all f damage.offset) (sym h.0) (damaged_here shared all images file text left damage.offset h.1 walk)
fault_exact shared all images file text left Memory h walk = tt

-- the whole set

pub no_file : (shared : Shared) (images : List ProcImage) (files : List (List ℕ)) → files ≡ [] → SpellsFiles files shared images → ⊥
unfolding SpellsFiles
no_file shared images files none h = subst (λ (f : List (List ℕ)). SpellsFiles f shared images) none h

pub missing : (files : List (List ℕ)) → files ≡ [] → DamagedFiles files 1 0
unfolding DamagedFiles
missing files none = subst (λ (f : List (List ℕ)). DamagedFiles f 1 0) (sym none) (refl, refl)

-- the files, as the code has their first one and the others
pub split : (files seen : List (List ℕ)) (first text : List ℕ) (texts : List (List ℕ)) → seen ≡ files → seen ≡ first ∷ texts → text ≡ first → files ≡ text ∷ texts
split files seen first text texts same is read = sym same ∙ is ∙ ap (λ (t : List ℕ). t ∷ texts) (sym read)

pub no_files : (files seen : List (List ℕ)) → seen ≡ files → length seen ≡ 0 → files ≡ []
no_files files [] same none = sym same
no_files files (text ∷ seen) same none = absurd (omega arith)

pub spells_files : (files : List (List ℕ)) (first : List ℕ) (texts : List (List ℕ)) (shared : Shared) (images : List ProcImage)
    → files ≡ first ∷ texts → SpellsShared first shared → length texts ≡ live_count shared → SpellsImages shared 2 texts images → SpellsFiles files shared images
unfolding SpellsFiles
spells_files files first texts shared images is h count spelled = subst (λ (f : List (List ℕ)). SpellsFiles f shared images) (sym is) (h, count, spelled)

-- what the files spell, part by part
pub record Parts (first : List ℕ) (texts : List (List ℕ)) (shared : Shared) (images : List ProcImage) : Type 0 where
  pub shared_image : SpellsShared first shared
  pub count : length texts ≡ live_count shared
  pub images_spelled : SpellsImages shared 2 texts images

pub parts : (files : List (List ℕ)) (first : List ℕ) (texts : List (List ℕ)) (shared : Shared) (images : List ProcImage) → files ≡ first ∷ texts → SpellsFiles files shared images → Parts first texts shared images
unfolding SpellsFiles
parts files first texts shared images is h =
    let spelled = subst (λ (f : List (List ℕ)). SpellsFiles f shared images) is h in
    record { shared_image = spelled.0; count = spelled.1; images_spelled = spelled.2 }

pub fault_of_shared : (files : List (List ℕ)) (first : List ℕ) (texts : List (List ℕ)) (fault : ReadFault) → files ≡ first ∷ texts
    → ((s : Shared) → SpellsShared first s → IsRead (Err fault) s) → (d : Decoded) → SpellsFiles files d.shared d.procs → IsRead (Err fault) d
fault_of_shared files first texts (Damaged damage) is none d h = none d.shared (parts files first texts d.shared d.procs is h).shared_image
fault_of_shared files first texts Memory is none d h = tt

pub damage_of_shared : (files : List (List ℕ)) (first : List ℕ) (texts : List (List ℕ)) (fault : ReadFault) → files ≡ first ∷ texts
    → IsDamagedAt {A = Shared} 1 (DamagedShared first) (Err fault) → IsDamageOf {A = Decoded} (DamagedFiles files) (Err fault)
unfolding DamagedFiles
damage_of_shared files first texts (Damaged damage) is h = subst (λ (f : List (List ℕ)). DamagedFiles f damage.file damage.offset) (sym is) (inl h)
damage_of_shared files first texts Memory is h = tt

pub wrong_count : (files : List (List ℕ)) (first : List ℕ) (texts : List (List ℕ)) (shared : Shared) → files ≡ first ∷ texts
    → ((s : Shared) → SpellsShared first s → shared ≡ s) → length texts ≢ live_count shared → (d : Decoded) → SpellsFiles files d.shared d.procs → ⊥
wrong_count files first texts shared is one differs d h =
    let spelled = parts files first texts d.shared d.procs is h in
    differs (spelled.count ∙ ap live_count (sym (one d.shared spelled.shared_image)))

pub damage_of_count : (files : List (List ℕ)) (first : List ℕ) (texts : List (List ℕ)) (shared : Shared) (n : ℕ) → files ≡ first ∷ texts
    → SpellsShared first shared → length texts ≢ live_count shared → n ≡ length first → DamagedFiles files 1 n
unfolding DamagedFiles
damage_of_count files first texts shared n is h differs place = subst (λ (f : List (List ℕ)). DamagedFiles f 1 n) (sym is) (inr (inl (shared, h, differs, refl, place)))

-- the number of live processes is small
pub live_count-le : (first : List ℕ) (shared : Shared) → SpellsShared first shared → live_count shared ≤ 128
unfolding live_count
live_count-le first shared h =
    let few : length shared.processes ≤ 128 = at_most (length shared.processes) (text_of first shared h).keeps.fields.process_count.1 in
    omega (arith, count_by-le-length (λ (process : ProcessEntry). lives process.life) shared.processes, few)
  where
    at_most : (n : ℕ) → IsTrue (nat_le n 128) → n ≤ 128
    at_most n h = grind (arith, nat_tests)

pub fault_of_images : (files : List (List ℕ)) (first : List ℕ) (texts : List (List ℕ)) (shared : Shared) (fault : ReadFault) → files ≡ first ∷ texts
    → ((s : Shared) → SpellsShared first s → shared ≡ s) → ((images : List ProcImage) → SpellsImages shared 2 texts images → IsRead (Err fault) images)
    → (d : Decoded) → SpellsFiles files d.shared d.procs → IsRead (Err fault) d
fault_of_images files first texts shared (Damaged damage) is one none d h =
    let spelled = parts files first texts d.shared d.procs is h in
    none d.procs (subst (λ (s : Shared). SpellsImages s 2 texts d.procs) (sym (one d.shared spelled.shared_image)) spelled.images_spelled)
fault_of_images files first texts shared Memory is one none d h = tt

pub damage_of_images : (files : List (List ℕ)) (first : List ℕ) (texts : List (List ℕ)) (shared : Shared) (fault : ReadFault) → files ≡ first ∷ texts
    → SpellsShared first shared → length texts ≡ live_count shared → IsDamageOf {A = List ProcImage} (DamagedImages shared 2 texts) (Err fault) → IsDamageOf {A = Decoded} (DamagedFiles files) (Err fault)
unfolding DamagedFiles
damage_of_images files first texts shared (Damaged damage) is s count h = subst (λ (f : List (List ℕ)). DamagedFiles f damage.file damage.offset) (sym is) (inr (inr (shared, s, count, h)))
damage_of_images files first texts shared Memory is s count h = tt

pub only_files : (files : List (List ℕ)) (first : List ℕ) (texts : List (List ℕ)) (shared : Shared) (images : List ProcImage) → files ≡ first ∷ texts
    → ((s : Shared) → SpellsShared first s → shared ≡ s) → ((others : List ProcImage) → SpellsImages shared 2 texts others → images ≡ others)
    → (d : Decoded) → SpellsFiles files d.shared d.procs → ◌≡◌ {A = Decoded} (record { shared = shared; procs = images }) d
only_files files first texts shared images is one one_images d h =
    let spelled = parts files first texts d.shared d.procs is h in
    let same = one d.shared spelled.shared_image in
    let same_images = one_images d.procs (subst (λ (s : Shared). SpellsImages s 2 texts d.procs) (sym same) spelled.images_spelled) in
    λ i. record { shared = same i; procs = same_images i }
