pub mod Leasts
pub mod ClosedEnds
pub mod ClosedPairs
pub mod FreeNumbers
pub mod SentMessages
