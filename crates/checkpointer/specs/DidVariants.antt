-- The variants of `Did`, handed on.
pub use Rattle.staged_cut.specs.DidVariants.{Delivered, Served, Ran}
