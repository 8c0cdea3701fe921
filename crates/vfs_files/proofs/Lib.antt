pub mod Inverses
pub mod Sums
pub mod Changes
pub mod Kept
