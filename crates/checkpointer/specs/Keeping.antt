-- What the folder of sets has come to while a run goes on, where checkpoints are asked for.
--     IsSafe g records old new     a crash at any moment of the call so far leaves the set that counted in
--                                  an image of its start, if one did, or one of the run's
--     IsKept checkpointer folder   what the checkpointer knows of the folder
--     HasNoLater generation folder     a part of it: the folder's set is of no later generation
--     IsPut state generation result old new     a set that was put, or tried
use Rattle.std.specs.Prelude.{◌≡◌, ◌⊎◌, ℕ, suc, ◌+◌, ◌-◌, ◌^◌, ◌<◌, ◌≤◌, Bool, true, false, List, Some, None, is_some, IfSome, Result, OnOk, OnErr}
use Rattle.std.specs.List.{count_by, Contains}
use Rattle.std.specs.Option.{ForSome}
use Rattle.views.specs.Numbers.{Byte}
use Rattle.sys_abi.specs.declared.record.Record.{Record}
use Rattle.sys_abi.specs.declared.record.Record.TheVariants.{Complete, Refused}
use Rattle.sys_abi.specs.declared.record.Cause.{Cause}
use Rattle.sys_abi.specs.declared.record.Cause.TheVariants.{Unsupported, DiskFault, Memory}
use Rattle.checkpointer.specs.Sets.{SpellsState, SpellsSet, IsAtLeast}
use Rattle.image_store.specs.StoreCrashes.{OldOrNew}
use Rattle.image_store.specs.declared.store_fault.StoreFault.{StoreFault}
use Rattle.image_store.specs.declared.store_fault.StoreFault.TheVariants as disk_failed
use Rattle.disk_folder.specs.Files.{FolderFiles as Folder}
use Rattle.disk_folder.specs.Moments.{LeavesOnly}
use Rattle.disk_folder.specs.SeenFolder.{SeenFolder}
use Rattle.plain_machine.specs.declared.plain.Plain.{Plain}
use Rattle.trace_log.specs.Requests.{CutAt}
use Rattle.image_store.specs.Slots.{last}
use Rattle.image_store.specs.FoundSets.{last_set, HasSet}
use Rattle.image_store.specs.StoreStates.{Known, FitsFolder, next_generation}
use Rattle.checkpointer.specs.declared.checkpointer.Checkpointer.{Checkpointer}

-- the set that counts in the image is the one of an image that a crash could leave before
pub record IsOpening (before : Folder → Type 0) (image : Folder) : Type 0 where
  pub old : Folder
  pub could : before old
  pub same : last_set image ≡ last_set old

-- it spells the state of the run at a cut
pub record SpellsCut (g : Plain) (records : List Record) (image : Folder) : Type 0 where
  pub generation : ℕ
  pub state : Plain
  pub cut : CutAt g records generation state
  pub set : SpellsSet image generation state

abbrev pub IsGood : (Folder → Type 0) → Plain → List Record → Folder → Type 0
IsGood before g records image = IsOpening before image ⊎ SpellsCut g records image

-- each set that the trace says is complete stays, or a later one does
abbrev pub KeepsComplete : List Record → (Folder → Type 0) → Type 0
KeepsComplete records images =
    (generation : ℕ) (image : Folder)
    → Contains records (Complete generation) → images image → IsAtLeast generation image

abbrev pub is_disk_fault : Record → Bool
is_disk_fault (Refused DiskFault) = true
is_disk_fault _ = false

-- a folder's count of faults rose by at least the number of checkpoints that were refused for it
abbrev pub CountsFaults : List Record → ℕ → ℕ → Type 0
CountsFaults records old new = (old + count_by is_disk_fault records ≤ new) ⊎ (new ≡ 2 ^ 64 - 1)

-- what the checkpointer knows of the folder: its store fits, and without one the folder's set is none of a
-- later generation
pub record IsKept (checkpointer : Checkpointer) (folder : SeenFolder) : Type 0 where
  pub fits : (store : Known) → checkpointer.store ≡ Some store
      → FitsFolder store folder × (next_generation store ≡ suc checkpointer.tally.greatest)
  pub above : ForSome folder.files
      (λ files. IfSome (last files) (λ info. info.generation ≤ checkpointer.tally.greatest))
  pub floor : checkpointer.store ≡ None → 0 < checkpointer.tally.greatest

-- the set of the folder, where it tells its content, is none of a later generation
abbrev pub HasNoLater : ℕ → SeenFolder → Type 0
HasNoLater generation folder =
    ForSome folder.files (λ files. IfSome (last files) (λ info. info.generation ≤ generation))

pub record IsSafe (g : Plain) (records : List Record) (old new : SeenFolder) : Type 0 where
  pub told : is_some new.files ≡ is_some old.files
  pub crash : ForSome old.files (λ _. LeavesOnly old new (IsGood old.may_leave g records))
  pub complete : ForSome old.files (λ _. KeepsComplete records new.may_leave)
  pub counted : CountsFaults records old.faults new.faults
  pub later : old.faults ≤ new.faults

-- a set of this generation was put, or tried, for the state
pub record IsPut (state : Plain) (generation : ℕ) (result : Result Known Cause)
    (old new : SeenFolder) : Type 0 where
  pub images : List (List Byte)
  pub spelled : SpellsState images state
  pub crash : ForSome old.files (λ files. LeavesOnly old new (OldOrNew (last_set files) generation images))
  pub told : is_some new.files ≡ is_some old.files
  pub durable : OnOk result (ForSome old.files
      (λ _. (image : Folder) → new.may_leave image → HasSet (last_set image) generation images))
  pub stored : OnOk result (ForSome new.files (λ files. HasSet (last_set files) generation images))
  pub refused : OnErr result (ForSome old.files
      (λ before. ForSome new.files (OldOrNew (last_set before) generation images)))

-- a count of faults that goes on from call to call
pub record Counts (old new : ℕ) : Type 0 where
  pub later : old ≤ new
  pub small : old < 2 ^ 64 → new < 2 ^ 64

-- a checkpoint is refused for the disk or for want of memory alone
abbrev pub IsOutside : Cause → Type 0
IsOutside DiskFault = Unit {0}
IsOutside Memory = Unit {0}
IsOutside (Unsupported p fd kind) = ⊥

-- why a checkpoint is refused where the store refuses. It never has no set and no damage to tell when it is
-- opened or a set is put
abbrev pub cause_told : StoreFault → Cause
cause_told disk_failed.DiskFault = DiskFault
cause_told disk_failed.NoSet = Memory
cause_told (disk_failed.Damaged damage) = Memory
cause_told disk_failed.Memory = Memory
