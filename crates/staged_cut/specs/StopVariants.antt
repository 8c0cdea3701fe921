-- The variants of `Stop`, handed on.
pub use Rattle.run_start.specs.StopVariants.{Sink, Memory}
