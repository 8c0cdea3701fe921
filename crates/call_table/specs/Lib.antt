pub mod Requests
pub use Rattle.sys_abi.specs as OfSysAbi
