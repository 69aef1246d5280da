pub mod Readers
pub mod NoText
