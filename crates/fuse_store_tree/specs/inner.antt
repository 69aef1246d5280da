-- What the code does on its way: no public contract cites it (defined by this project).
pub mod Acting
pub mod Changing
pub mod Finding
pub mod Knowing
pub mod Laws
pub mod Listing
pub mod Moving
pub mod Over
pub mod Preparing
pub mod Transacting
pub mod Reading
pub mod Relisting
pub mod Showing
pub mod Writing
