pub mod ListLaws
pub mod Sound
pub mod StepRule
pub mod Held
pub mod Guards
pub mod Tokens
pub mod Drained
pub mod Once
