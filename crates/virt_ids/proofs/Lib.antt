pub mod PairLaws
pub mod Lends
pub use Rattle.id_maps.proofs.OfViews
pub use Rattle.id_maps.proofs.OfSysAbi
