-- What is seen of a folder of files at a moment. A disk may crash at any moment, in a call or between two; an
-- image is the files that are found afterwards.
use Rattle.std.specs.Prelude.{◌≡◌, ℕ, ◌≤◌, Option, Some, None}
use Rattle.disk_folder.specs.Files.{FolderFiles}

pub record SeenFolder : Type 1 where
  -- the files that reads give, where the folder tells them
  pub files : Option FolderFiles
  -- the images that a crash at this moment may leave
  pub may_leave : FolderFiles → Type 0
  -- the moment, a number that does not fall
  pub moment : ℕ
  -- the images that a crash at some moment from that one to this one might have left
  pub left_since : ℕ → FolderFiles → Type 0
  -- how many calls have failed
  pub faults : ℕ
  -- a call may want for memory
  pub may_want : Type 0
  -- What reads give is one of the images. A folder that tells no content may leave anything.
  pub reads_left : (image : FolderFiles) → files ≡ Some image → may_leave image
  pub untold : (image : FolderFiles) → files ≡ None → may_leave image
  -- This moment is one of those since an earlier one, and the only one since itself.
  pub counts_now : (t : ℕ) (image : FolderFiles) → t ≤ moment → may_leave image → left_since t image
  pub only_now : (image : FolderFiles) → left_since moment image → may_leave image
