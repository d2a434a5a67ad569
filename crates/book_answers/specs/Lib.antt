pub mod Zero
pub mod Source
