pub mod Accesses
pub mod Fields
pub mod Validity
pub mod Words
