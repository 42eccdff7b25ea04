pub mod Names
pub mod Digits
pub mod Literals
pub mod Counts
pub mod ByWord
pub mod WordLines
