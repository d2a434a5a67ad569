pub mod Queue
pub mod Tally
