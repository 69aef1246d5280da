pub mod Slices
pub mod Pieces
