pub mod Answered
pub mod Moves
pub mod Seeks
pub mod FileReads
pub mod Sizes
pub mod FileWrites
pub mod Unlinks
pub mod Refusals
pub mod Undone
pub mod Openings
pub mod OpenedFiles
pub use Rattle.host_descriptors.proofs as OfHostDescriptors
