pub mod Predecessors
pub mod Demand3
pub mod Demands
