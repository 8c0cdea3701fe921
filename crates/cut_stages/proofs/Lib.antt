pub mod OtherOwners
pub mod GivenUp
pub mod Arriving
pub mod Cutting
pub mod Filling
pub mod Holding
pub mod Telling
pub mod NamedEnds
pub mod Rounds
pub mod Moves
pub mod Led
pub mod GoingOn
pub use Rattle.wrap_names.proofs as OfWrapNames
