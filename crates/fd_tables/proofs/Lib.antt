pub mod OrderLaws
pub mod Places
pub mod TableLaws
pub mod TableViews
pub mod InRange
pub mod Ranges
pub mod IndexLaws
pub mod DescriptionViews
pub mod RetainLaws
pub mod Holders
pub mod SlabLaws
pub use Rattle.sys_abi.proofs.OfViews
pub use Rattle.sys_abi.proofs as OfSysAbi
