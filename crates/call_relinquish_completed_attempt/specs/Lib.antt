pub mod Relinquishing
