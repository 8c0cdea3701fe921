pub mod Asking
pub mod Telling
pub use Rattle.wrap_names.specs as OfWrapNames
