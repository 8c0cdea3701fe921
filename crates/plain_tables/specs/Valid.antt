pub mod Processes
pub mod Files
pub mod Descriptions
pub mod Channels
pub mod Sockets
pub mod Datagrams
