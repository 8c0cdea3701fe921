pub mod ChildPlaces
pub mod Fronts
pub mod LendLemmas
pub mod LocalReads
pub mod PageImages
pub mod Taking
pub mod Texts
