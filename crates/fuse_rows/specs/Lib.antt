pub mod Bounds
pub mod Blocks
pub mod Rows
pub mod Origins
pub mod Pieces
pub mod Columns
pub mod inner
