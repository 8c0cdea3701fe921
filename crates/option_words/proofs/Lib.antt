pub mod Numbers
pub mod Keys
pub mod TwoWords
pub mod Settings
