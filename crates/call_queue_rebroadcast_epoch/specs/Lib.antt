pub mod Rebroadcast
