pub mod Spelling
pub mod Candidate
pub mod Trace
pub mod LogText
pub mod Requests
pub mod RequestLaws
pub mod RequestSteps
pub mod Turns
