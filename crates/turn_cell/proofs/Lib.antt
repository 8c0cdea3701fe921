pub mod Prefixes
pub mod Parts
pub mod Keeping
pub mod Sharing
