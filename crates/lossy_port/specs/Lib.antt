pub mod Losing
pub mod Lossy
pub mod inner
