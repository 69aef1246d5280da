mod NewRows
mod Placed
pub mod PlainTrees
