-- Rows of frames, some of which are missing, as are all past the end.
--     IsSameCells old new            each place holds what it held
--     SetsCell old new at cell       one place holds this, each other what it held
--     IsNextPlace row start place    the first place from a start on, below 1,024, that holds a frame, if there is one
--     Writes old new at f            the frame at a place, which may be written, is changed by f
use Rattle.std.specs.Prelude.{◌≡◌, ◌≢◌, ℕ, ◌≤◌, ◌<◌, List, Option, None, Some, is_some, true, length, slice_index_or, slice_set}
use Rattle.plain_process.specs.declared.memory.Frame.{Frame}
use Rattle.plain_process.specs.declared.memory.Right.TheVariants.{Write}
use Rattle.plain_process.specs.Memory.{allows}

pub record IsSameCells (old new : List (Option Frame)) : Type 0 where
  pub same : (at : ℕ) → slice_index_or new at None ≡ slice_index_or old at None

pub record SetsCell (old new : List (Option Frame)) (at : ℕ) (cell : Option Frame) : Type 0 where
  pub there : slice_index_or new at None ≡ cell
  pub others : (k : ℕ) → k ≢ at → slice_index_or new k None ≡ slice_index_or old k None

pub record IsFirstPlace (row : List (Option Frame)) (start place : ℕ) : Type 0 where
  pub from : start ≤ place
  pub below : place < 1024
  pub held : is_some (slice_index_or row place None) ≡ true
  pub first : (at : ℕ) → start ≤ at → at < place → slice_index_or row at None ≡ None

abbrev pub IsNextPlace : List (Option Frame) → ℕ → Option ℕ → Type 0
IsNextPlace row start None = (at : ℕ) → start ≤ at → at < 1024 → slice_index_or row at None ≡ None
IsNextPlace row start (Some place) = IsFirstPlace row start place

pub record Writes (old new : List (Option Frame)) (at : ℕ) (f : Frame → Frame) : Type 0 where
  pub frame : Frame
  pub there : slice_index_or old at None ≡ Some frame
  pub allowed : allows Write frame.rights ≡ true
  pub whole : length frame.page ≡ 4096
  pub put : new ≡ slice_set old at (Some (f frame))
