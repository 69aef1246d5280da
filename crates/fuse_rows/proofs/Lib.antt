mod Joined
mod NumberLists
pub mod Ranges
