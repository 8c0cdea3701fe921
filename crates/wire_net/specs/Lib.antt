pub mod AgentSteps
pub mod CutRooms
pub mod DrainedNets
pub mod Ends
pub mod Laws
pub mod Networks
pub mod Noted
pub mod Reserves
pub mod Runs
pub mod Whereabouts
pub use Rattle.wire_channels.specs as OfWireChannels
