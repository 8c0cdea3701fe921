pub mod Firsts
pub mod Makings
pub mod Owned
