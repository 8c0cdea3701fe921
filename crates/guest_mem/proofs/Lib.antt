pub mod Copies
pub mod PageRuns
pub mod NextPages
pub mod FreeRuns
