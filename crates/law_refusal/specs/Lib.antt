pub mod Answers
pub mod Rows
pub mod Files
