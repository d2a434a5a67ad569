pub mod Holds
pub mod Acts
pub mod Room
pub mod RetireLaws
pub mod Outcomes
