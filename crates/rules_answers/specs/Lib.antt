pub mod Kind
pub mod Turned
pub mod Said
pub mod Coins
