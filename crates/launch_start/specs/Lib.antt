pub mod JobInputs
pub mod JobStarts
pub mod HandedOn
pub mod RingJobs
pub mod Values
