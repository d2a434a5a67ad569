pub mod Skips
pub mod Places
pub mod Sections
pub mod Walk
pub mod Theorem
