pub mod ListLaws
pub mod Place
pub mod Shift
pub mod Coins
pub mod Writing
