-- What the code does on its way: no public contract cites it (defined by this project).
pub mod FilesLived
pub mod HandedBy
pub mod Marking
pub mod Running
