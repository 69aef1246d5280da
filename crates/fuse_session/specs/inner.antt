-- What the code does on its way: no public contract cites it (defined by this project).
pub mod Counting
pub mod Moves
pub mod Finishing
pub mod Group
pub mod Sending
pub mod Receiving
pub mod Loans
pub mod Turn
pub mod Logged
pub mod Stepping
