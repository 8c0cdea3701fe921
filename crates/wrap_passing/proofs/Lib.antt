pub mod FcntlCalls
pub mod OwnNumber
pub mod RealCalls
pub mod Passing
pub mod KeptRows
pub mod MakingRows
pub mod Made
pub mod PendingSignals
pub mod WaitedRow
pub mod TakenSignals
pub use Rattle.wrap_names.proofs as OfWrapNames
