pub mod Peeking
pub mod Running
