-- The variants of `Stop`, handed on.
pub use Rattle.checkpointer.specs.StopVariants.{Sink, Memory}
