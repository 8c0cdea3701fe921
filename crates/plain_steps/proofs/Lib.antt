pub mod FieldBounds
pub mod StepsInRow
