pub mod Source
pub mod Finalize
