pub mod Finding
pub mod Writables
pub mod Acknowledged
pub mod Going
pub mod Puts
pub mod Parts
pub mod Sound
