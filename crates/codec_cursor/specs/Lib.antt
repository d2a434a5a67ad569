pub mod Cursor
pub mod Items
pub mod Cells
