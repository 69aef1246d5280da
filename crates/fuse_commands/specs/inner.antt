pub mod Failing
pub mod Input
pub mod Messages
pub mod Scripts
pub mod Sending
pub mod Simulating
