pub mod Owners
pub mod Voters
pub mod Directions
pub mod Agents
pub mod Elections
