-- What a load is asked with, where its batch is read from a document.
pub mod Spelt
pub mod ReadBatches
