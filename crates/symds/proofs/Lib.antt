pub mod Readings
pub mod Matching
pub mod Ordering
pub mod Telling
