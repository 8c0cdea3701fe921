-- What a whole set spells: a manifest and the files that it names, the shared image and then the image of
-- each live process in rising order of their numbers.
--     SpellsFiles files shared images      the files spell these values
--     DamagedFiles files file n      the files spell none: the first damage is at n in the file of this index
--     SpellsSet manifest files g state      the set of the generation g spells this plain state
--     OneStateOfSet      a set spells one state of one generation at most
--     OneSetOfState      a state has one set of a generation at most
--     HasSet state g, StateHasSet      which plain states have a set of the generation g
--     SetIsValid      and what a set spells is such a state
--     FilesApart, FilesEither      no files spell values and are damaged, and all files of bytes do one of both
--     OneDamageOfFiles      files have one first damage at most
-- Source: docs/FORMATS.md, "Whole sets".
use Rattle.std.specs.Prelude.{◌≡◌, ◌≢◌, ℕ, ◌+◌, ◌^◌, ◌<◌, ◌⊎◌, List, [], ◌∷◌, length, slice_index, count_by, All, map as each}
use Rattle.std.specs.FinMap as map
use Rattle.views.specs.Numbers.{Byte}
use Rattle.sys_abi.specs.declared.identity.VPid.{VPid}
use Rattle.plain_process.specs.declared.user_part.UserPart.{UserPart}
use Rattle.plain_process.specs.Valid.{IsByte}
use Rattle.plain_machine.specs.declared.plain.Plain.{Plain}
use Rattle.image_process.specs.declared.process_image.ProcImage.{ProcImage}
use Rattle.shared_items.specs.declared.shared.Shared.{Shared}
use Rattle.image_format.specs.Manifests.{SpellsManifest}
use Rattle.shared_items.specs.SharedFormat.{SpellsShared, DamagedShared}
use Rattle.image_process.specs.ProcessImages.{SpellsFileAt, DamagedFileAt}
use Rattle.plain_machine.specs.Valid.{IsValid}
use Rattle.image_codec.specs.KernelParts.{kernel_of}
use Rattle.image_codec.specs.KernelImages.{IsSupported, HasArrived}
use Rattle.image_process.specs.UserParts.{user_of}
use Rattle.sys_abi.specs.Lives.{lives}

-- each file the image of the process of its place
unfoldable pub SpellsImages : Shared → ℕ → List (List Byte) → List ProcImage → Type 0
SpellsImages shared file [] [] = Unit {0}
SpellsImages shared file [] (image ∷ images) = ⊥
SpellsImages shared file (text ∷ texts) [] = ⊥
SpellsImages shared file (text ∷ texts) (image ∷ images) =
    SpellsFileAt shared file text image × SpellsImages shared (file + 1) texts images

-- the first file that is damaged, after those that are not
unfoldable pub DamagedImages : Shared → ℕ → List (List Byte) → ℕ → ℕ → Type 0
DamagedImages shared file [] damaged n = ⊥
DamagedImages shared file (text ∷ texts) damaged n =
    ((damaged ≡ file) × DamagedFileAt shared file text n)
    ⊎ ((image : ProcImage) × SpellsFileAt shared file text image
    × DamagedImages shared (file + 1) texts damaged n)

unfoldable pub live_count : Shared → ℕ
live_count shared = count_by (λ process. lives process.life) shared.processes

-- the shared image is file 1, and there is a file for each live process
unfoldable pub SpellsFiles : List (List Byte) → Shared → List ProcImage → Type 0
SpellsFiles [] shared images = ⊥
SpellsFiles (first ∷ texts) shared images =
    SpellsShared first shared × (length texts ≡ live_count shared) × SpellsImages shared 2 texts images

-- a missing file is damaged at 0; a number of files that is not that of the live processes is a damage at the
-- shared image's end
unfoldable pub DamagedFiles : List (List Byte) → ℕ → ℕ → Type 0
DamagedFiles [] damaged n = (damaged ≡ 1) × (n ≡ 0)
DamagedFiles (first ∷ texts) damaged n =
    ((damaged ≡ 1) × DamagedShared first n)
    ⊎ ((shared : Shared) × SpellsShared first shared × (length texts ≢ live_count shared)
    × (damaged ≡ 1) × (n ≡ length first))
    ⊎ ((shared : Shared) × SpellsShared first shared × (length texts ≡ live_count shared)
    × DamagedImages shared 2 texts damaged n)

abbrev pub user_entry : ProcImage → VPid × UserPart
user_entry image = (image.pid, user_of image)

-- the plain state of which these are the parts
pub record IsStateOf (shared : Shared) (images : List ProcImage) (state : Plain) : Type 0 where
  pub kernel : state.kernel ≡ kernel_of shared
  pub users : state.users ≡ map.from_entries (each user_entry images)

pub record SpellsSet (manifest : List Byte) (files : List (List Byte)) (g : ℕ) (state : Plain) : Type 0 where
  pub shared : Shared
  pub images : List ProcImage
  pub named : SpellsManifest manifest (record { generation = g; lengths = each length files })
  pub spelled : SpellsFiles files shared images
  pub stands : IsStateOf shared images state

abbrev pub OneStateOfSet : Type 0
OneStateOfSet =
    (manifest : List ℕ) (files : List (List ℕ)) (g h : ℕ) (state other : Plain)
    → SpellsSet manifest files g state → SpellsSet manifest files h other → (g ≡ h) × (state ≡ other)

-- the other way round: the bytes of the manifest and of each file are those of the state
abbrev pub OneSetOfState : Type 0
OneSetOfState =
    (manifest other : List ℕ) (files others : List (List ℕ)) (g : ℕ) (state : Plain)
    → SpellsSet manifest files g state → SpellsSet other others g state → (manifest ≡ other) × (files ≡ others)

-- some set of the generation spells the state
pub record HasSet (state : Plain) (g : ℕ) : Type 0 where
  pub manifest : List Byte
  pub files : List (List Byte)
  pub spells : SpellsSet manifest files g state

-- each valid state has one, where no datagram end or event counter is open and all bytes have arrived
pub record MayBeSet (state : Plain) : Type 0 where
  pub valid : IsValid state
  pub supported : IsSupported state.kernel
  pub arrived : HasArrived state.kernel

abbrev pub StateHasSet : Type 0
StateHasSet = (state : Plain) (g : ℕ) → g < 2 ^ 64 → MayBeSet state → HasSet state g

-- and back, where the files are of bytes
abbrev pub SetIsValid : Type 0
SetIsValid =
    (files : List (List ℕ)) (shared : Shared) (images : List ProcImage) (state : Plain)
    → All (All IsByte) files → SpellsFiles files shared images → IsStateOf shared images state → MayBeSet state

-- files that spell values are damaged nowhere
abbrev pub FilesApart : Type 0
FilesApart =
    (files : List (List ℕ)) (damaged n : ℕ) (shared : Shared) (images : List ProcImage)
    → SpellsFiles files shared images → DamagedFiles files damaged n → ⊥

-- the first damage is in one file, at one place of it
abbrev pub OneDamageOfFiles : Type 0
OneDamageOfFiles =
    (files : List (List ℕ)) (damaged other n m : ℕ)
    → DamagedFiles files damaged n → DamagedFiles files other m → (damaged ≡ other) × (n ≡ m)

-- files of bytes, however many, spell values or are damaged somewhere
abbrev pub HasValues : List (List Byte) → Type 0
HasValues files = (shared : Shared) × (images : List ProcImage) × SpellsFiles files shared images

abbrev pub HasDamage : List (List Byte) → Type 0
HasDamage files = (damaged : ℕ) × (n : ℕ) × DamagedFiles files damaged n

abbrev pub FilesEither : Type 0
FilesEither =
    (files : List (List ℕ)) → All (λ text. (i : ℕ) → slice_index text i < 256) files
    → HasValues files ⊎ HasDamage files
