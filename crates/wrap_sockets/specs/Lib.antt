pub mod Meeting
pub mod Replies
pub mod Clients
pub mod Naming
pub mod Listing
pub mod Listening
