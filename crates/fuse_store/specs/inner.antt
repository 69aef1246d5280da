-- What the code does on its way: no public contract cites it (defined by this project).
pub mod Laws
pub mod Leaving
pub mod Opened
pub mod ThirdData
