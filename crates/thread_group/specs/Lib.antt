pub mod Groups
pub mod Local
pub use Rattle.process_memory.specs as OfProcessMemory
