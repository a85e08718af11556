pub mod Answers
pub mod Once
pub mod Results
pub mod Schedules
