pub mod Held
pub mod Settle
pub mod Looks
pub mod Forms
pub mod Arguments
