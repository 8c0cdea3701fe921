pub mod RowLaws
pub mod Asking
pub mod StageLaws
pub mod ReachLaws
pub mod Keeping
pub mod Closing
pub mod Histories
