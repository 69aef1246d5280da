pub mod Pages
pub mod Finding
pub mod Writing
