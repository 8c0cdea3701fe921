pub mod Programs
pub mod Commands
pub mod Jobs
pub mod Parts
pub mod Answers
pub mod Parsed
pub mod Outlines
