mod Asked
pub mod Simulations
pub mod Scripted
pub mod Decodings
pub mod Dumps
pub mod Faults
pub mod Firmness
pub mod Known
pub mod Lines
pub mod Printed
pub mod Rests
pub mod Runs
pub mod Streams
pub mod Tallies
pub mod Unsettled
