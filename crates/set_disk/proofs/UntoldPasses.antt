-- A folder that tells no content, and may leave anything, meets what a call says of crashes.
use Rattle.std.proofs.Common.{ℕ, inl, arith}
use Rattle.disk_folder.specs.Files.{FolderFiles}
use Rattle.disk_folder.specs.Moments.{Passes}
use Rattle.set_disk.specs.Untold.{without_content}

pub untold_passes : (step : FolderFiles → FolderFiles → Type 0) → ((files : FolderFiles) → step files files) → (old new : ℕ)
    → Passes step (without_content old) (without_content new)
untold_passes step none old new = record {
  later = omega arith;
  now = λ image left. (image, tt, none image);
  since = λ t image early left. inl tt;
  keeps = λ t image early left. tt;
  wants = λ want. tt;
}
