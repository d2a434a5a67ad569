pub mod Every
pub mod Typing
pub mod Parts
pub mod Steps
pub mod Calls
pub mod Theorems
