mod ByteItems
pub mod DescriptionNames
pub mod Keys
mod MadeNumbers
mod Names
pub mod OneMore
pub mod Searched
pub mod FieldLaws
pub mod ItemLaws
pub mod ObjectLaws
pub mod RisingItems
pub mod SharedLaws
