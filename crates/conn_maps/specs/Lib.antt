pub mod LentValues
pub mod NextConns
pub use Rattle.sys_abi.specs.OfViews
pub use Rattle.sys_abi.specs as OfSysAbi
