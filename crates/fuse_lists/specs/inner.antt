pub mod NumbersOnce
pub mod Causing
