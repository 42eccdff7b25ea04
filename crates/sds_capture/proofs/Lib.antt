pub mod Names
pub mod Running
pub mod Rows
pub mod OwnRuns
