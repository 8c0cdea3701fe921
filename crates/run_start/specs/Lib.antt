pub mod Starts
pub mod HandedOn
pub mod StopVariants
pub mod DidVariants
pub use Rattle.computation.specs.OfGuestProc
