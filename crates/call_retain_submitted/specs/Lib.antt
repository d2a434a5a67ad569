pub mod Removed
pub mod Retaining
