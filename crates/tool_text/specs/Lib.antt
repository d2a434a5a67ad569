pub mod Ascii
pub mod Numbers
pub mod Each
