pub mod history
pub mod world
