pub mod Places
pub mod Votes
pub mod Asking
pub mod Supported
pub mod LiveParts
pub mod GoingOn
pub use Rattle.run_start.proofs.OfGuestProc
