pub mod HoldersOf
pub mod KnownThreads
