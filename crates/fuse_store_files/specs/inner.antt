-- What the code does on its way: no public contract cites it (defined by this project).
pub mod Connections
pub mod Opened
pub mod Laws
