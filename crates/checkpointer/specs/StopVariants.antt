-- The variants of `Stop`, handed on.
pub use Rattle.staged_cut.specs.StopVariants.{Sink, Memory}
