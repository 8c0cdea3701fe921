-- The files of the processes of a start: each that lives has one, and they come one after the other.
use Rattle.std.proofs.Common.{◌≡◌, ℕ, suc, ◌≤◌, true, List, [], ◌∷◌, ◌++◌, length, append_assoc, Option, Some, None, refl, sym, ap, subst, ◌∙◌, arith, append-nil}
use Rattle.std.specs.Prelude.{is_some, map as each}
use Rattle.std.specs.Option.{option_map}
use Rattle.std.specs.FinMap as map
use Rattle.views.proofs.MapLaws.{true_false}
use Rattle.views.proofs.MapValues.{get-map_values}
use Rattle.sys_abi.specs.declared.identity.VPid.{VPid}
use Rattle.sys_abi.specs.declared.life.Life.{Life}
use Rattle.sys_abi.specs.declared.life.Life.TheVariants.{Live, Zombie}
use Rattle.sys_abi.specs.Lives.{lives}
use Rattle.plain_process.specs.declared.user_part.UserPart.{UserPart}
use Rattle.plain_process.specs.declared.user_part.ThreadPart.{ThreadPart}
use Rattle.plain_tables.specs.declared.process.Process.{Process}
use Rattle.plain_tables.specs.Tables.{is_live_process}
use Rattle.plain_machine.specs.declared.kernel.PlainKernel.{PlainKernel}
use Rattle.plain_machine.specs.Kernel.{is_live}
use Rattle.plain_machine.specs.Valid.{FitsLife}
use Rattle.plain_machine.proofs.ThreadKeys.{same_len}
use Rattle.staged_cut.specs.OfGuestProc.Guests.{GuestPart}
use Rattle.image_process.specs.declared.process_image.ProcImage.{ProcImage}
use Rattle.image_process.specs.declared.thread_image.ThreadImage.{ThreadImage}
use Rattle.image_process.specs.ProcessFits.{threads_of}
use Rattle.image_process.specs.ProcessImages.{SpellsProcess}
use Rattle.image_process.specs.UserParts.{thread_entry, user_of}
use Rattle.staged_cut.specs.HandedOn.{Start, state_of, CanBegin}
use Rattle.checkpointer.specs.Images.{HasFile, IsFileOf, AreFilesOf}

-- one more file
pub more_files : (guest : VPid × GuestPart) (guests all : List (VPid × GuestPart)) (text : List ℕ) (texts : List (List ℕ)) → IsFileOf guest.1 text
    → ((more : List (List ℕ)) → AreFilesOf (guest ∷ guests) more → AreFilesOf all (texts ++ more))
    → (more : List (List ℕ)) → AreFilesOf guests more → AreFilesOf all ((texts ++ text ∷ []) ++ more)
unfolding AreFilesOf
more_files guest guests all text texts own so_far more rest =
    subst (AreFilesOf all) (sym (append_assoc texts (text ∷ []) more)) (so_far (text ∷ more) (own, rest))

pub no_more_files : (all : List (VPid × GuestPart)) (texts : List (List ℕ)) → ((more : List (List ℕ)) → AreFilesOf [] more → AreFilesOf all (texts ++ more)) → AreFilesOf all texts
unfolding AreFilesOf
no_more_files all texts so_far = subst (AreFilesOf all) (append-nil texts) (so_far [] tt)

-- a process that lives is there, and has a thread
live_process : (k : PlainKernel) (p : VPid) → is_live k p ≡ true → (process : Process) × ((map.get k.processes p ≡ Some process) × (lives process.life ≡ true))
unfolding is_live
live_process k p alive = there (map.get k.processes p) refl alive
  where
    there : (found : Option Process) → map.get k.processes p ≡ found → is_live_process found ≡ true → (process : Process) × ((map.get k.processes p ≡ Some process) × (lives process.life ≡ true))
    there None known none = true_false (sym none)
    there (Some process) known some = (process, (known, some))

some_threads : (process : Process) → lives process.life ≡ true → FitsLife process.life process.threads process.pending → 1 ≤ map.len process.threads
some_threads process alive fits = by_life process.life alive fits
  where
    by_life : (life : Life) → lives life ≡ true → FitsLife life process.threads process.pending → 1 ≤ map.len process.threads
    by_life Live alive fits = fits.0
    by_life (Zombie status) alive fits = true_false (sym alive)

pub each_has_file : (c : Start) → CanBegin c → (p : VPid) (guest : GuestPart) → map.get c.guests p ≡ Some guest → HasFile guest
each_has_file c ready p guest found =
    let there : map.get (state_of c).users p ≡ Some guest.user = get-map_values (λ (g : GuestPart). g.user) c.guests p ∙ ap (option_map (λ (g : GuestPart). g.user)) found in
    let alive : is_live c.kernel p ≡ true = sym (ready.valid.alive p) ∙ ap is_some there in
    let (process, (known, alive_too)) = live_process c.kernel p alive in
    let some = some_threads process alive_too (ready.valid.kernel.processes.each p process known).life in
    let as_many = same_len guest.user.threads process.threads (ready.valid.threads p process guest.user known there) in
    record { user = ready.valid.users p guest.user there; threads = omega arith }

-- the threads that an image lists
pub own_threads : (image : ProcImage) (user : UserPart) → each thread_entry image.threads ≡ map.entries user.threads → threads_of image ≡ map.keys user.threads
own_threads image user is = keys_of image.threads ∙ ap (each (λ (e : ℕ × ThreadPart). e.0)) is
  where
    keys_of : (threads : List ThreadImage) → each (λ t. t.tid) threads ≡ each (λ (e : ℕ × ThreadPart). e.0) (each thread_entry threads)
    keys_of [] = refl
    keys_of (thread ∷ threads) = ap (λ more. thread.tid ∷ more) (keys_of threads)

pub count_of_files : (es : List (VPid × GuestPart)) (texts : List (List ℕ)) → AreFilesOf es texts → length texts ≡ length es
unfolding AreFilesOf
count_of_files [] [] files = refl
count_of_files [] (text ∷ texts) files = absurd files
count_of_files (e ∷ es) [] files = absurd files
count_of_files (e ∷ es) (text ∷ texts) files = ap suc (count_of_files es texts files.1)

-- the file of an image
pub file_of : (guest : GuestPart) (image : ProcImage) (text file : List ℕ) → image.pid ≡ guest.pid → user_of image ≡ guest.user → each thread_entry image.threads ≡ map.entries guest.user.threads
    → SpellsProcess (Some image.pid.0) (threads_of image) text image → file ≡ text → IsFileOf guest file
file_of guest image text file pid user threads spelled is = record {
  image = image;
  pid = pid;
  user = user;
  spelled = subst (λ (t : List ℕ). SpellsProcess (Some guest.pid.0) (map.keys guest.user.threads) t image) (sym is)
      (subst (λ (p : VPid). SpellsProcess (Some p.0) (map.keys guest.user.threads) text image) pid
      (subst (λ (ts : List ℕ). SpellsProcess (Some image.pid.0) ts text image) (own_threads image guest.user threads) spelled));
}
