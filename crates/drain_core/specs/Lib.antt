pub mod Drains
pub mod Holding
pub mod Laws
pub mod Openings
pub mod Runs
pub mod Tasks
pub mod Work
