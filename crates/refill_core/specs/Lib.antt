pub mod Beginnings
pub mod Holding
pub mod Laws
pub mod Refills
pub mod Runs
pub mod Stepping
pub mod Tasks
pub mod Work
