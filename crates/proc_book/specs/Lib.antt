pub mod Ends
pub mod Processes
pub mod Procs
pub mod Waits
pub use Rattle.virt_ids.specs as OfVirtIds
