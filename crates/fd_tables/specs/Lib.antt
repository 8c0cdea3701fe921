pub mod Orders
pub mod Slots
pub mod Parts
pub mod Numbers
pub mod Tables
pub mod Descriptions
pub mod Counts
pub use Rattle.sys_abi.specs.OfViews
pub use Rattle.sys_abi.specs as OfSysAbi
