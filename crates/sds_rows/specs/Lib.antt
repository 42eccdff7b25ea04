pub mod Stored
pub mod Searches
pub mod Undoing
pub mod Shown
