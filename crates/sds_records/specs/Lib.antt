-- The words that the contracts of kept records share.
pub mod Parts
pub mod Told
pub mod Fields
pub mod Headings
