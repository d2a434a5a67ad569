pub mod Items
pub mod Steady
