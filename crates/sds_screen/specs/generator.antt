-- The generator: many own writes and exchanges of four nodes under one configuration, and its summary.
pub mod Shop
pub mod Drawn
pub mod Written
pub mod Steps
pub mod Settled
pub mod Summary
