pub mod Holdings
pub mod Suspended
pub mod HandedOn
pub mod StopVariants
pub mod DidVariants
pub use Rattle.run_start.specs.OfGuestProc
