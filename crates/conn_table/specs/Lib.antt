pub mod Conns
pub mod Unsupported
pub mod Pairs
pub mod Openings
pub mod Messages
