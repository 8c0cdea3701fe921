pub mod Ending
pub mod Exits
pub mod Forgetting
pub mod Serving
