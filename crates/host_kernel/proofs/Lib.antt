pub mod InboxChanges
pub mod MessageTests
pub mod MessageRows
pub mod Accesses
pub mod Objects
pub mod ReadRows
pub mod WriteRows
pub mod UnknownCalls
