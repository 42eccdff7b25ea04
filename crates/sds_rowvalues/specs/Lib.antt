-- The words that the contracts of values of rows share.
pub mod Found
