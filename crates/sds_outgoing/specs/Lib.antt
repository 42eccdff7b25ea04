pub mod Batches
pub mod Offering
pub mod Restating
pub mod Told
