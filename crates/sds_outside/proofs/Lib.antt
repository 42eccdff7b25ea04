pub mod Pieces
pub mod Telling
pub mod Places
pub mod Ascending
pub mod Halving
