pub mod Active
pub mod Collecting
