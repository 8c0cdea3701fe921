-- The files of processes' images.
--     IsFileOf guest text        the file spells the image of the process
--     AreFilesOf guests texts    each of the files that of the process of its place
--     HasFile guest              a process that has one
--     guest_entry image          and back: the process of an image, under its number
--     IsWithin image             it has no more pages than a process may, each with a page's number
use Rattle.std.specs.Prelude.{◌≡◌, ℕ, ◌^◌, ◌<◌, ◌≤◌, List, [], ◌∷◌, length, Some, All}
use Rattle.std.specs.FinMap as map
use Rattle.sys_abi.specs.declared.identity.VPid.{VPid}
use Rattle.image_process.specs.declared.process_image.ProcImage.{ProcImage}
use Rattle.image_process.specs.ProcessImages.{SpellsProcess}
use Rattle.image_process.specs.UserParts.{user_of}
use Rattle.plain_process.specs.Valid.{IsUser}
use Rattle.staged_cut.specs.OfGuestProc.Guests.{GuestPart}

pub record IsFileOf (guest : GuestPart) (text : List ℕ) : Type 0 where
  pub image : ProcImage
  pub pid : image.pid ≡ guest.pid
  pub user : user_of image ≡ guest.user
  pub spelled : SpellsProcess (Some guest.pid.0) (map.keys guest.user.threads) text image

unfoldable pub AreFilesOf : List (VPid × GuestPart) → List (List ℕ) → Type 0
AreFilesOf [] [] = Unit {0}
AreFilesOf [] (text ∷ texts) = ⊥
AreFilesOf (entry ∷ entries) [] = ⊥
AreFilesOf (entry ∷ entries) (text ∷ texts) = IsFileOf entry.1 text × AreFilesOf entries texts

-- what a process needs to have a file: a part that a run may reach, and a thread
pub record HasFile (guest : GuestPart) : Type 0 where
  pub user : IsUser guest.user
  pub threads : 1 ≤ map.len guest.user.threads

abbrev pub guest_of : ProcImage → GuestPart
guest_of image = record { pid = image.pid; user = user_of image; spare = 0 }

abbrev pub guest_entry : ProcImage → VPid × GuestPart
guest_entry image = (image.pid, guest_of image)

pub record IsWithin (image : ProcImage) : Type 0 where
  pub numbers : All (λ page. page.number < 2 ^ 20) image.pages
  pub few : length image.pages ≤ 2048
