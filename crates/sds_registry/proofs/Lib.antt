pub mod Keys
pub mod Searched
pub mod Giving
