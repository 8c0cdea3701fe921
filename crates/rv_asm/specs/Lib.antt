pub mod Layout
pub mod Pieces
pub mod Files
pub mod Labels
pub mod Answers
pub mod Ring
