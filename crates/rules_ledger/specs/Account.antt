-- What a tidy ledger tells, a file for each part of the theorem.
pub mod Tokens
pub mod Counts
pub mod Exact
pub mod Fates
