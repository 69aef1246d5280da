mod Ends
mod FileRuns
mod InMemory
mod Looks
mod Numbered
mod Opened
mod Refused
mod Scripted
mod Served
mod Shown
mod Summed
mod Sunk
mod Usage
pub mod Lots
mod Verified
mod Written
