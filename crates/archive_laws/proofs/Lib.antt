pub mod ItemLaws
pub mod Places
pub mod Stops
