pub mod Numbers
pub mod Profile
pub mod Agree
pub mod Sets
