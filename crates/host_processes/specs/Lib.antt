pub mod Parents
pub mod Raises
pub mod Waits
pub mod Forks
pub mod Leaves
pub mod HandedOn
pub use Rattle.host_descriptors.specs.OfHostTables
