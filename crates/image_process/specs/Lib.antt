pub mod ProcessFits
pub mod ProcessImages
pub mod ProcessTests
pub mod ProcessTexts
pub mod UserParts
