pub mod Telling
pub mod Lists
pub mod Going
pub mod Places
pub mod Turns
