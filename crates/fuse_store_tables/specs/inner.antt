-- What the code does on its way: no public contract cites it (defined by this project).
pub mod Checking
pub mod Columns
pub mod Copies
pub mod Dropping
pub mod Following
pub mod Looking
pub mod Performing
pub mod Ranged
pub mod Rows
pub mod Shapes
pub mod Steps
pub mod Transaction
pub mod Versions
