pub mod Calls
pub mod Paced
