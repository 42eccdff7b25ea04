pub mod Sample
pub mod Fitting
