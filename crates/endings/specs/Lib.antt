pub mod Statuses
pub mod Log
pub mod Endings
