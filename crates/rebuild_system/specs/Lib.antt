pub mod Restarts
pub mod Nets
pub mod Holders
pub mod Making
pub mod Steps
