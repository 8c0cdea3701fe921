pub mod UntoldPasses
pub mod HostNames
