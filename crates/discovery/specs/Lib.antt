pub mod Directories
pub mod Uses
