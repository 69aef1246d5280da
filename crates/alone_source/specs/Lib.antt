pub mod Turns
pub mod Holding
pub mod Reads
pub mod Consuming
pub mod Groups
pub mod inner
