pub mod PipeConns
pub mod DirectionBytes
pub mod ReadRows
pub mod Readiness
pub mod WriteRows
pub mod BrokenPipes
pub mod ShutEnds
pub mod SocketLookUps
pub mod PipeLookUps
pub mod SocketRows
pub mod CounterRows
pub mod HandedOn
pub use Rattle.host_processes.proofs.OfHostTables
pub use Rattle.host_processes.proofs as OfHostProcesses
