pub mod Runs
pub mod Parts
