pub mod Pipes
pub mod Reads
pub mod Writes
pub mod Requests
pub mod Turns
pub mod Turning
pub mod Greets
