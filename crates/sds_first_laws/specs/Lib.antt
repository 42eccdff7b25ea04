pub mod Counters
pub mod Link
pub mod Loads
pub mod Once
pub mod Pairs
pub mod Runs
