pub mod Forms
pub mod Drain
pub mod Looks
pub mod Numbers
