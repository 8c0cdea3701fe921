use Rattle.std.proofs.Common.{ℕ, List, ◌<◌, length}
use Rattle.std.specs.Prelude.{All, slice_index_or}
use Rattle.plain_process.specs.Valid.{IsByte}
use Rattle.dmtcp_top.proofs.loading.look_at_files.Given as goal

abbrev pub invariant-loop-file : goal.invariant-loop-file
invariant-loop-file l = record {
  looked : (k : ℕ) → k < l.file-index → (d : List ℕ) → k < length l.files → All IsByte (slice_index_or l.files k d);
}
