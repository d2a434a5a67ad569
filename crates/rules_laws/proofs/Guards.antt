pub mod Bare
pub mod Calls
