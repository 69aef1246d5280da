pub mod inner
pub mod InLists
