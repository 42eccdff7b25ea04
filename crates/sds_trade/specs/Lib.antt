pub mod rules
pub mod laws
pub mod sound
pub mod worked
