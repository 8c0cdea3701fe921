-- The variants of `Stop`, handed on.
pub use Rattle.computation.specs.declared.computation.Stop.TheVariants.{Sink, Memory}
