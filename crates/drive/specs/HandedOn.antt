-- What is handed on of the libraries below, so that who uses this one need not name them.
pub use Rattle.checkpointer.specs.Keeping.{IsSafe, Counts, IsOpening, SpellsCut, KeepsComplete, CountsFaults, IsKept}
pub use Rattle.checkpointer.specs.Rounds.{GoesInRounds, Standing, is_due, is_first_arrival, is_due_for_cut, request_waits, moved, moved_by, standing_after, first_standing}
unfoldable pub use Rattle.checkpointer.specs.Rounds.{each_is_due}
pub use Rattle.checkpointer.specs.Pace.{TookThen, CutLines}
pub use Rattle.checkpointer.specs.Sets.{SpellsSet, SpoilsSet, SpellsState, opening_of}
pub use Rattle.checkpointer.specs.declared.checkpointer.Checkpointer.{Checkpointer}
pub use Rattle.edge_io.specs.Sunk.{sunk}
pub use Rattle.trace_log.specs.Turns.{NewRound}
pub use Rattle.checkpointer.specs.HandedOn.{Computation}
pub use Rattle.checkpointer.specs.HandedOn.{Stop}
pub use Rattle.checkpointer.specs.HandedOn.{Did}
pub use Rattle.checkpointer.specs.HandedOn.{plain_of, IsDid, IsReady}
