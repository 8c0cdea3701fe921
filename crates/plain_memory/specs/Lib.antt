pub mod Results
pub mod LocalAnswers
