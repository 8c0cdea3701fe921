pub mod Bytes
pub mod FileTable
pub mod Keeping
pub mod Names
pub mod Room
