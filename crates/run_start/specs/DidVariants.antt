-- The variants of `Did`, handed on.
pub use Rattle.computation.specs.declared.computation.Did.TheVariants.{Delivered, Served, Ran}
