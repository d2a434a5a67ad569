pub mod Deliveries
pub mod Kinds
