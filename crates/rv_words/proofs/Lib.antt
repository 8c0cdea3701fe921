pub mod Exclusive
pub mod Fields
pub mod InsnEquality
pub mod Rows
pub mod WordLaws
