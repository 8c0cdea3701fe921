-- A folder in memory: the files that it began with, the calls since, and what a crash after them may leave.
--     History                      what a folder in memory is seen as
--     reads_after start calls      what reads give after these calls
--     settled_count calls          how many calls there are up to the last sync that was done
--     durable, pending             the files that this sync made sure, and the calls since
--     MayLeave start calls image   a crash after these calls may leave this image
--     image_after pattern start calls      one such image: without the pending writes and cuts (0), with them
--                                          (1), and with each written range filled (2)
use Rattle.std.specs.Prelude.{◌≡◌, ◌⊎◌, ℕ, zero, suc, ◌+◌, Bool, true, false, ◌&&◌, if◌then◌else◌, List, [], ◌∷◌, ◌++◌, length, take, drop, replicate, fold, ◌==◌}
use Rattle.std.specs.List.{list_any}
use Rattle.disk_folder.specs.Files.{FolderFiles, with_write, with_cut}
use Rattle.disk_folder.specs.Crash.{Torn, CutOrNot, Same}
use Rattle.disk_folder.specs.declared.request.Request.{Request}
use Rattle.disk_folder.specs.declared.request.Request.TheVariants.{Look, Write, Cut, Sync}
use Rattle.disk_folder.specs.declared.call.Call.{Call}

pub record History : Type 0 where
  pub start : FolderFiles
  pub calls : List Call
  -- the numbers of the calls that are to fail, counted from 1
  pub fails : List ℕ

-- the files after a request that is done
abbrev pub done : Request → FolderFiles → FolderFiles
done Look files = files
done (Write name at bytes) files = with_write files name at bytes
done (Cut name len) files = with_cut files name len
done Sync files = files

-- the files after a call; one that fails does nothing
abbrev pub after_call : FolderFiles → Call → FolderFiles
after_call files call = if call.done then done call.request files else files

abbrev pub reads_after : FolderFiles → List Call → FolderFiles
reads_after start calls = fold after_call start calls

abbrev pub is_sync : Request → Bool
is_sync Sync = true
is_sync _ = false

abbrev pub settles : Call → Bool
settles call = is_sync call.request && call.done

-- one more call in front of those of which n are settled
abbrev pub counted : Bool → ℕ → ℕ
counted settling zero = if settling then 1 else 0
counted settling (suc n) = suc (suc n)

abbrev pub settled_count : List Call → ℕ
settled_count [] = 0
settled_count (call ∷ later) = counted (settles call) (settled_count later)

abbrev pub durable : FolderFiles → List Call → FolderFiles
durable start calls = reads_after start (take (settled_count calls) calls)

abbrev pub pending : List Call → List Call
pending calls = drop (settled_count calls) calls

-- what a crash may make of an image while the request is pending, whether it failed or not
abbrev pub torn_by : Request → FolderFiles → FolderFiles → Type 0
torn_by Look old new = Same old new
torn_by (Write name at bytes) old new = Torn name at (length bytes) old new
torn_by (Cut name len) old new = CutOrNot name len old new
torn_by Sync old new = Same old new

-- the images that these calls, one after another, may make of the files
abbrev pub Leaves : FolderFiles → List Call → FolderFiles → Type 0
Leaves files [] image = image ≡ files
Leaves files (call ∷ later) image = (next : FolderFiles) × torn_by call.request files next × Leaves next later image

-- what reads give, or what the pending calls may make of the durable files
abbrev pub MayLeave : FolderFiles → List Call → FolderFiles → Type 0
MayLeave start calls image = (image ≡ reads_after start calls)
    ⊎ Leaves (durable start calls) (pending calls) image

abbrev pub FILLER : ℕ
FILLER = 0xA5

-- the files after a call whose written range, done or failed, was filled
abbrev pub filled_by : Request → Bool → FolderFiles → FolderFiles
filled_by Look is_done files = files
filled_by (Write name at bytes) is_done files = with_write files name at (replicate (length bytes) FILLER)
filled_by (Cut name len) is_done files = if is_done then with_cut files name len else files
filled_by Sync is_done files = files

abbrev pub after_filled : FolderFiles → Call → FolderFiles
after_filled files call = filled_by call.request call.done files

-- without the writes and cuts of these calls (0), with them (1), and with each written range filled (2)
abbrev pub with_pending : ℕ → FolderFiles → List Call → FolderFiles
with_pending zero files calls = files
with_pending (suc zero) files calls = reads_after files calls
with_pending (suc (suc n)) files calls = fold after_filled files calls

abbrev pub image_after : ℕ → FolderFiles → List Call → FolderFiles
image_after pattern start calls = with_pending pattern (durable start calls) (pending calls)

-- the next call is to fail
abbrev pub is_due : History → Bool
is_due h = list_any (λ n. n == length h.calls + 1) h.fails

abbrev pub with_call : History → Request → Bool → History
with_call h request is_done =
    record {
      start = h.start;
      calls = h.calls ++ record { request = request; done = is_done } ∷ [];
      fails = h.fails;
    }
