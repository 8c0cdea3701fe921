pub mod Takes
pub mod Computations
pub mod Parts
pub mod HandedOn
pub use Rattle.guest_proc.specs as OfGuestProc
