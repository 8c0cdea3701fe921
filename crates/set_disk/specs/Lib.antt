pub mod HostNames
pub mod Owed
pub mod Untold
