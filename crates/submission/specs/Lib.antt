pub mod Book
pub mod Answers
pub mod Door
pub mod Calls
