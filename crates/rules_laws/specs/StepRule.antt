-- Paper 01: "A call is refused as full exactly if, after some step of the unlimited rules, retained, queue or retirements exceed their
-- limit; a step is one candidate or one id."
pub mod Free
pub mod Stays
pub mod Calls
