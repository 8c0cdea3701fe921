pub mod NameOrder
pub mod FilesAfter
pub mod TornFiles
pub mod Stretches
pub mod Histories
pub mod MemoryFolders
