pub mod Computing
pub mod Outcomes
