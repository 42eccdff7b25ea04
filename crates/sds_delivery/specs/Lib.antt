pub mod Placing
pub mod Slots
