-- The parts of the live processes that a shared image tells of: one file of a set for each.
--     AreParts s users      a part for each live process, with the threads that the image lists of it
--     PartsHavePlaces      the images of these parts are the files from 2 on, in the order of their numbers
--     ImagesAreParts      and what the images in those files stand for are such parts
-- Source: docs/FORMATS.md, "Whole sets".
use Rattle.std.specs.Prelude.{◌≡◌, ℕ, ◌+◌, List, length, slice_get, Some, is_some, map as each}
use Rattle.std.specs.FinMap as map
use Rattle.sys_abi.specs.declared.identity.VPid.{VPid}
use Rattle.sys_abi.specs.Orders.{vpid_cmp}
use Rattle.plain_process.specs.declared.user_part.UserPart.{UserPart}
use Rattle.plain_tables.specs.declared.process.Process.{Process}
use Rattle.plain_machine.specs.Kernel.{is_live}
use Rattle.plain_machine.specs.Valid.{SameThreads}
use Rattle.shared_items.specs.declared.shared.Shared.{Shared}
use Rattle.shared_items.specs.SharedFits.{IsShared}
use Rattle.image_process.specs.declared.process_image.ProcImage.{ProcImage}
use Rattle.image_process.specs.ProcessImages.{pid_at, tids_at}
use Rattle.image_codec.specs.KernelParts.{kernel_of}
use Rattle.image_codec.specs.Sets.{SpellsImages, live_count, user_entry}

abbrev pub Users : Type 0
Users = map.FinMap vpid_cmp UserPart

pub record AreParts (s : Shared) (users : Users) : Type 0 where
  pub alive : (p : VPid) → is_some (map.get users p) ≡ is_live (kernel_of s) p
  pub threads : (p : VPid) (process : Process) (user : UserPart) → map.get (kernel_of s).processes p ≡ Some process
      → map.get users p ≡ Some user → SameThreads process user

-- each part in its order has the next file
pub record HavePlaces (s : Shared) (users : Users) : Type 0 where
  pub count : map.len users ≡ live_count s
  pub pids : (i : ℕ) (p : VPid) (user : UserPart) → slice_get (map.entries users) i ≡ Some (p, user)
      → pid_at s (i + 2) ≡ Some p.0
  pub tids : (i : ℕ) (p : VPid) (user : UserPart) → slice_get (map.entries users) i ≡ Some (p, user)
      → tids_at s (i + 2) ≡ map.keys user.threads

abbrev pub PartsHavePlaces : Type 0
PartsHavePlaces = (s : Shared) (users : Users) → IsShared s → AreParts s users → HavePlaces s users

abbrev pub ImagesAreParts : Type 0
ImagesAreParts =
    (s : Shared) (texts : List (List ℕ)) (images : List ProcImage)
    → IsShared s → length texts ≡ live_count s → SpellsImages s 2 texts images
    → AreParts s (map.from_entries (each user_entry images))
