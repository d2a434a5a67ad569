pub mod Account
pub mod Run
pub mod Steps
pub mod Theorem
pub mod Told
