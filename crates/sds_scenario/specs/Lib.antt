pub mod Words
pub mod Rows
pub mod Counted
pub mod Lines
