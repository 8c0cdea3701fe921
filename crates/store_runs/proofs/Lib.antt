pub mod RunSteps
pub mod LastInfo
