mod SeenMakers
mod SeenKernel
mod Arrived
pub mod Parts
mod Fronts
mod SeenFiles
mod SeenChannels
mod SeenDirections
mod SeenListeners
pub mod Filling
mod Paired
mod SeenThreads
mod SeenProcesses
mod SeenDescriptors
mod SeenDescriptions
