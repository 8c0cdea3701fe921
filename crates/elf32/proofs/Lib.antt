pub mod Accepted
pub mod Bytes
pub mod FirstSome
pub mod HeaderRules
pub mod PageCounts
pub mod ProgramPages
pub mod WholeFile
pub use Rattle.views.proofs as OfViews
