pub mod Walks
pub mod KeptOwners
mod Voting
mod Listing
mod Acting
pub mod Entries
pub mod Holders
pub mod VotesCast
pub mod Elections
