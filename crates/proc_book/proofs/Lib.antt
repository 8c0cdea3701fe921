pub mod HandedOut
pub mod Waits
pub mod Leasts
pub use Rattle.virt_ids.proofs as OfVirtIds
