-- The variants of `Did`, handed on.
pub use Rattle.run_start.specs.DidVariants.{Delivered, Served, Ran}
