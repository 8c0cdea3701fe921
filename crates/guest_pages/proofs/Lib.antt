pub mod InPage
pub mod Ranges
pub mod Writes
pub mod Checks
pub mod FrameTables
pub mod OpenTables
