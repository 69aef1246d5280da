pub mod BodyFaults
pub mod Laid
pub mod Acts
pub mod Heads
pub mod Streams
pub mod Framing
pub mod Canons
pub mod Classes
mod FurtherContents
