pub mod Play
pub mod Pieces
pub mod Table
pub mod Further
