pub mod Tables
pub mod Objects
pub mod Valid
pub mod Closing
pub mod Ends
pub mod Waits
pub mod Settled
pub mod Start
pub use Rattle.plain_process.specs.OfViews
pub use Rattle.id_maps.specs.OfSysAbi
pub use Rattle.plain_process.specs.OfCallTable
pub use Rattle.plain_process.specs.OfElf32
pub use Rattle.plain_process.specs as OfPlainProcess
pub mod HandedOn
