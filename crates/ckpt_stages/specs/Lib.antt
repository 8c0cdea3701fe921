pub mod Elections
pub mod Suspensions
pub mod Faults
pub mod Kinds
pub mod HandedOn
pub use Rattle.cut_stages.specs.OfWrapNames
