-- The words that the contracts of reading rows share.
pub mod Placed
pub mod Named
pub mod Texts
