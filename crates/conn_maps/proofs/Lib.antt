pub mod RetainedKeys
pub mod NextConns
pub use Rattle.sys_abi.proofs.OfViews
pub use Rattle.sys_abi.proofs as OfSysAbi
