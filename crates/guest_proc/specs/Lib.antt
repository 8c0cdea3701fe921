pub mod Guests
pub mod Running
pub mod Looking
