pub mod Delivered
pub mod Slotted
