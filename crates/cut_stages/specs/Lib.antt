pub mod Cuts
pub mod Holdings
pub mod Rounds
pub mod Drains
pub mod Resumptions
pub use Rattle.wrap_names.specs as OfWrapNames
