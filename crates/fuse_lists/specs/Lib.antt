pub mod PlainRows
pub mod PlainTree
pub mod inner
