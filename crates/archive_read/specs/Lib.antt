pub mod Sections
pub mod Archive
