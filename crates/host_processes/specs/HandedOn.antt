-- What is handed on of the libraries below, so that who uses this one need not name them.
pub use Rattle.host_descriptors.specs.Held.{held_in, seen_held}
pub use Rattle.host_descriptors.specs.declared.held.Held.{Held}
