pub mod Live
pub mod Stored
pub mod Answers
