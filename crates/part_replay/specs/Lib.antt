pub mod Epoch
pub mod EpochLaws
