pub mod Values
pub mod Columns
pub mod Space
pub mod State
pub mod Causes
pub mod Serving
pub mod Laws
pub mod inner
