-- What is seen of a folder that tells no content: anything may be left, at every moment, of which it has one.
use Rattle.std.specs.Prelude.{ℕ, None, ⊤}
use Rattle.disk_folder.specs.SeenFolder.{SeenFolder}

-- with so many faults
abbrev pub without_content : ℕ → SeenFolder
without_content faults = record {
  files = None;
  may_leave = λ image. ⊤;
  moment = 0;
  left_since = λ t image. ⊤;
  faults = faults;
  may_want = ⊤;
  reads_left = λ image is. tt;
  untold = λ image is. tt;
  counts_now = λ t image early left. tt;
  only_now = λ image left. tt;
}
