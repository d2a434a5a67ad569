pub mod Demand1
pub mod Drains
pub mod Library
pub mod Sized
pub mod Steps
pub mod Told
