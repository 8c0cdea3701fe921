pub mod Held
pub mod Moves
pub mod LetGo
pub use Rattle.host_tables.specs as OfHostTables
