pub mod Delivering
pub mod GuestLemmas
pub mod Images
pub mod Lift
pub mod LocalAnswers
pub mod LookLemmas
pub mod Putting
pub mod ThreadEnds
