pub mod Lanes
pub mod PipeEnds
pub mod HandedOn
pub use Rattle.host_processes.specs.OfHostTables
pub use Rattle.host_processes.specs as OfHostProcesses
