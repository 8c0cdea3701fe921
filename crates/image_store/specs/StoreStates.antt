-- What a store knows of its folder.
--     Known                         the gate byte of each slot's manifest as the store found or left it, if
--                                   it has one; the set that counts; the floor
--     generation_after floor last, next_generation store      one more than the greater of the floor and the
--                                                             generation of the set that counts
--     gate_known store slot         the gate byte of a slot
--     with_set store slot g         what it knows once a set of this generation was put into the slot
--     within_floor floor info       the set, unless there is a floor and its generation is greater
--     FitsFolder store folder       the store fits a folder that tells its content where nothing is pending
--                                   there and it is as the store found or left it. It fits every folder that
--                                   tells none
--     NoneAbove floor files         where there is a floor, no set of the folder has a greater generation
use Rattle.std.specs.Prelude.{◌≡◌, ℕ, suc, ◌<◌, ◌≤◌, max, ◌&&◌, if◌then◌else◌, ◌==◌, nat_lt, Option, Some}
use Rattle.std.specs.Prelude.{None, IfSome}
use Rattle.std.specs.Option.{option_map_or, ForSome}
use Rattle.disk_folder.specs.Files.{FolderFiles}
use Rattle.disk_folder.specs.Crash.{Only}
use Rattle.disk_folder.specs.SeenFolder.{SeenFolder}
use Rattle.image_store.specs.Slots.{gate_of, manifest_of, last}
use Rattle.image_store.specs.FoundSets.{last_set}
use Rattle.image_store.specs.declared.set_info.SetInfo.{SetInfo}

pub record Known : Type 0 where
  pub first : Option ℕ
  pub second : Option ℕ
  pub last : Option SetInfo
  -- 0 is no floor
  pub floor : ℕ

unfoldable pub generation_after : ℕ → Option SetInfo → ℕ
generation_after floor last = suc (max floor (option_map_or (λ info. info.generation) last 0))

abbrev pub next_generation : Known → ℕ
next_generation store = generation_after store.floor store.last

abbrev pub gate_known : Known → ℕ → Option ℕ
gate_known store slot = if slot == 0 then store.first else store.second

abbrev pub with_set : Known → ℕ → ℕ → Known
with_set store slot g = record {
  first = if slot == 0 then Some 1 else store.first;
  second = if slot == 0 then store.second else Some 1;
  last = Some (record { slot = slot; generation = g });
  floor = store.floor;
}

unfoldable pub within_floor : ℕ → Option SetInfo → Option SetInfo
within_floor floor None = None
within_floor floor (Some info) = if nat_lt 0 floor && nat_lt floor info.generation then None else Some info

pub record FitsFiles (store : Known) (files : FolderFiles) (images : FolderFiles → Type 0) : Type 0 where
  pub settled : Only files images
  pub first : gate_of (manifest_of files 0) ≡ store.first
  pub second : gate_of (manifest_of files 1) ≡ store.second
  pub last : last files ≡ store.last

abbrev pub FitsFolder : Known → SeenFolder → Type 0
FitsFolder store folder = ForSome folder.files (λ files. FitsFiles store files folder.may_leave)

abbrev pub NoneAbove : ℕ → FolderFiles → Type 0
NoneAbove floor files = 0 < floor → IfSome (last_set files) (λ set. set.generation ≤ floor)
