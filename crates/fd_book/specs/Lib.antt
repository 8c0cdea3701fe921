pub mod Books
pub mod Counted
