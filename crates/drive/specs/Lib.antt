pub mod Driving
pub mod RunEnds
pub mod Pace
pub mod Going
pub mod HandedOn
pub mod Scheduling
pub mod StopVariants
pub mod DidVariants
