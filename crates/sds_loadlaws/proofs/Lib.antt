pub mod Lists
pub mod Texts
pub mod SpeltRows
pub mod ReadBatches
