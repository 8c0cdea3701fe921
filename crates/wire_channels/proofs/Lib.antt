pub mod ClosedEnds
pub mod OneDirection
pub mod KeptFrames
pub mod Stretches
pub use Rattle.virt_ids.proofs as OfVirtIds
