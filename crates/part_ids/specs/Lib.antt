pub mod Counted
pub mod Moving
pub mod Ids
pub mod IdLaws
pub mod Collect
