pub mod Enough
pub mod Fits
pub mod Lent
