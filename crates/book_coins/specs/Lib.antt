pub mod Coins
pub mod Found
pub mod Laws
pub mod Outputs
