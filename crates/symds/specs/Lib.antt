pub mod Help
pub mod Configured
pub mod Rehearsed
pub mod Words
