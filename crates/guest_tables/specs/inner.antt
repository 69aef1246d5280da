-- What the code does on its way: no public contract cites it (defined by this project).
pub mod Columns
pub mod Checking
pub mod Shapes
pub mod Steps
pub mod Slices
pub mod Walks
