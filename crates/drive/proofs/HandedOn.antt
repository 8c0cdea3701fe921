-- What is handed on of the libraries below, so that who uses this one need not name them.
pub use Rattle.checkpointer.proofs.Sinks.{took_front, took_both, took_then, took_nothing}
pub use Rattle.checkpointer.proofs.Walks.{left_true, right_true, mark_stays}
pub use Rattle.checkpointer.proofs.Running.{mark_is_quiet}
pub use Rattle.checkpointer.proofs.Safety.{at_some}
