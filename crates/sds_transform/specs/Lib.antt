-- The words that the contracts of transforms share.
pub mod Found
pub mod Keys
pub mod Kinds
pub mod Made
