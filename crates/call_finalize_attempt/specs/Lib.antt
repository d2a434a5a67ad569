pub mod Ready
pub mod Finalizing
pub mod Tests
pub mod Decision
pub mod Decided
