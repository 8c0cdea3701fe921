pub mod Stages
pub mod Members
pub mod Rows
pub mod Barriers
pub mod Calls
