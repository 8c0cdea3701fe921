pub mod Numbers
pub mod Processes
pub mod Datagrams
pub mod Descriptions
pub mod Network
pub mod Stands
pub mod Conditions
pub mod Requests
pub mod Serves
pub mod Systems
pub mod HandedOn
pub use Rattle.plain_machine.specs.OfPlainTables
pub use Rattle.plain_machine.specs as OfPlainMachine
pub use Rattle.vfs_files.specs as OfVfsFiles
