pub mod RunRecords
pub mod CallRecords
