-- The variants of `Did`, handed on.
pub use Rattle.checkpointer.specs.DidVariants.{Delivered, Served, Ran}
