pub mod Futex
pub mod Handlers
pub mod Locals
pub mod Mappings
