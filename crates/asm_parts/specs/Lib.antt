pub mod Texts
pub mod Numbers
pub mod Registers
pub mod Operands
pub mod Quotes
