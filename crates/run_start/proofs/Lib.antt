mod Listed
mod Starts
pub mod HandedOn
pub use Rattle.computation.proofs.OfGuestProc
