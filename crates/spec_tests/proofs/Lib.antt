pub mod Agreements
pub mod Small
pub mod Spellings
pub mod Vectors
mod InLists
