pub mod Quiet
pub mod Report
