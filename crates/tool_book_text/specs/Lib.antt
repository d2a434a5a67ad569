pub mod Checked
pub mod Entries
