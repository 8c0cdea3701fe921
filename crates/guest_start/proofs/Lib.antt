pub mod Breaks
pub mod Loading
pub mod StackLemmas
pub mod Runs
