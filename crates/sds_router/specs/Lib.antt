pub mod Standing
pub mod Asks
pub mod Questions
pub mod Routes
