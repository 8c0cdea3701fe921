pub mod MemoryParts
pub mod Lending
pub mod Local
