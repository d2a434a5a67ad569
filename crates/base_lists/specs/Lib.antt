pub mod Lists
pub mod Laws
pub mod Sub
pub mod Bytes
