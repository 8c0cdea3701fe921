-- Crashes over a stretch of time, from what is seen of a folder at its start to what is seen at its end.
--     Passes step old new     one call: what a crash may leave has taken the step, and each image of the
--                             call's moments is one of before it or one after the step
--     LeavesOnly old new P    a stretch of calls: a crash at any of its moments leaves an image that has P
use Rattle.std.specs.Prelude.{◌⊎◌, ℕ, ◌≤◌}
use Rattle.disk_folder.specs.Files.{FolderFiles}
use Rattle.disk_folder.specs.Crash.{AfterStep}
use Rattle.disk_folder.specs.SeenFolder.{SeenFolder}

pub record Passes (step : FolderFiles → FolderFiles → Type 0) (old new : SeenFolder) : Type 0 where
  pub later : old.moment ≤ new.moment
  -- what a crash may leave when the call has returned
  pub now : (image : FolderFiles) → new.may_leave image → AfterStep step old.may_leave image
  -- what a crash since a moment before the call might have left: before it, or in it
  pub since : (t : ℕ) (image : FolderFiles) → t ≤ old.moment → new.left_since t image
      → old.left_since t image ⊎ AfterStep step old.may_leave image
  -- and nothing of that is forgotten
  pub keeps : (t : ℕ) (image : FolderFiles) → t ≤ old.moment → old.left_since t image → new.left_since t image
  -- a folder that never wants for memory goes on so
  pub wants : new.may_want → old.may_want

pub record LeavesOnly (old new : SeenFolder) (P : FolderFiles → Type 0) : Type 0 where
  pub later : old.moment ≤ new.moment
  pub each : (image : FolderFiles) → new.left_since old.moment image → P image
  -- for a stretch that began earlier
  pub before : (t : ℕ) (image : FolderFiles) → t ≤ old.moment → new.left_since t image
      → old.left_since t image ⊎ P image
