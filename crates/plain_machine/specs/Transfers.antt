pub mod Answers
pub mod Counters
pub mod Datagrams
pub mod Files
pub mod Streams
