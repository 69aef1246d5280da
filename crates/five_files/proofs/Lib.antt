pub mod Asked
pub mod Prefixes
pub mod Fits
pub mod Same
pub mod Looking
pub mod Staying
