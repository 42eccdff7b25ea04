-- The words that the contracts of loading share.
pub mod Bodies
