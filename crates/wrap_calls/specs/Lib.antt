pub mod HandedOn
pub mod Directions
pub mod Console
pub mod Naming
