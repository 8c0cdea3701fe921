pub mod CloneLaws
pub mod LocalCalls
pub mod LocalThreads
pub mod OtherCalls
pub mod Waking
pub use Rattle.process_memory.proofs as OfProcessMemory
