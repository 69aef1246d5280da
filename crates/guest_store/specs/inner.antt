-- What the code does on its way: no public contract cites it (defined by this project).
pub mod Laws
pub mod Stepping
pub mod Deciding
pub mod Lotting
pub mod Showing
pub mod Changing
pub mod Acting
pub mod Transacting
