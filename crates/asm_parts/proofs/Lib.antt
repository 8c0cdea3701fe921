pub mod TextLaws
pub mod NumberLaws
pub mod OperandLaws
pub mod QuoteLaws
