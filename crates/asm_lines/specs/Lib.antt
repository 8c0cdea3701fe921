pub mod Mnemonics
pub mod Statements
pub mod Lines
