pub mod Words
pub mod Coins
pub mod Bundles
