pub mod Pairs
pub mod Looking
pub mod Fitting
pub mod Held
pub mod Printed
