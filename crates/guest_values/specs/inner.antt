-- What the code does on its way: no public contract cites it (defined by this project).
pub mod Writing
pub mod Reading
