pub mod Nodes
pub mod Answers
pub mod Listing
pub mod Asking
pub mod TheFiles
pub mod NeverChanges
pub mod Serving
