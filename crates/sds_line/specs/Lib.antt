pub mod Places
pub mod Characters
pub mod Reading
pub mod Written
pub mod Splitting
