pub mod HandlerEntries
pub mod OnlyThreads
pub mod RowLaws
