pub mod Guards
pub mod StepRule
