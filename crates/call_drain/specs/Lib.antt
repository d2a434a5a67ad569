pub mod ListLaws
pub mod Planned
pub mod Carried
pub mod Answers
pub mod Rules
pub mod Loop
pub mod PlannedLaws
pub mod Withdraw
