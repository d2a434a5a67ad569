pub mod Abandoning
