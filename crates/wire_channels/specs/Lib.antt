pub mod Answers
pub mod Channels
pub mod Directions
pub mod Frames
pub mod Listeners
pub use Rattle.virt_ids.specs as OfVirtIds
