pub mod ByteByByte
pub mod LentLengths
