pub mod Halt
pub mod Judge
