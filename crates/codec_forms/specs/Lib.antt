pub mod Wire
pub mod Number
pub mod Lawful
pub mod Items
pub mod Steady
pub mod Puts
pub mod Overlay
