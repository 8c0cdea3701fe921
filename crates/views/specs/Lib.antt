pub mod Faults
pub mod NumberMap
pub mod Maps
pub mod Bytes
pub mod Seen
pub mod Leasts
pub mod Limits
pub mod Numbers
