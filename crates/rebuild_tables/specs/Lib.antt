pub mod Hosts
pub mod ConnTables
pub mod Filled
pub mod Steps
pub mod Rebuilt
