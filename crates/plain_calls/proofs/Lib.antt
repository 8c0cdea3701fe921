pub mod LocalRows
pub mod SpelledNumbers
