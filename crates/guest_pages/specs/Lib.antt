pub mod Bytes
pub mod Cells
pub mod FrameTable
pub mod Pages
pub mod Refusals
