pub mod HeldTold
pub mod Dups
pub mod Closes
pub mod HeldChanges
pub mod Owners
pub mod FcntlRows
pub mod MarkedEnds
pub mod ClosedEnds
pub mod FileCloses
pub mod DatagramCloses
pub mod CloseCall
pub mod ObjectsAt
pub mod FinishedCloses
pub mod LetGoes
pub use Rattle.host_tables.proofs as OfHostTables
