pub mod Access
pub mod Groups
pub mod Messages
