pub mod Alone
pub mod Handed
pub mod Taken
pub mod Ticks
