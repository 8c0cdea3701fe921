pub mod Inputs
pub mod Sink
pub mod Sunk
pub mod NamedBytes
pub mod Calls
pub mod MemSink
