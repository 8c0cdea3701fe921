pub mod NetworkParts
pub mod PortsInUse
pub mod RoomLaws
pub mod Streams
pub mod EachItem
pub mod Finding
pub mod Gains
pub mod HeldLists
pub mod Items
pub mod FramedEnds
pub mod ListsOn
pub mod LiveAgents
pub mod LiveChannels
pub mod NotedAgents
pub mod OneCall
pub mod Pieces
pub use Rattle.wire_channels.proofs as OfWireChannels
