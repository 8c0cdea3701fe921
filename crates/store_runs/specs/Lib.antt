pub mod StoreRuns
pub mod StoreLaws
