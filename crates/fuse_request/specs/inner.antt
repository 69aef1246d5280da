pub mod Readers
pub mod FurtherReaders
pub mod Writing
