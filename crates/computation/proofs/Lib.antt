mod Threads
pub mod States
pub mod Numbered
mod Arrivals
mod Taking
mod Quanta
mod Traps
pub mod Effects
mod AddedThreads
mod Living
mod Delivered
mod Answered
mod Due
mod AnswerBytes
mod Twins
mod ShownBytes
pub mod MissingWalk
pub use Rattle.guest_proc.proofs as OfGuestProc
