pub mod AnswerCases
pub mod InitCases
pub mod RequestCases
pub mod Vectors
pub mod Hex
pub mod Links
pub mod WireCases
pub mod TreeInLists
