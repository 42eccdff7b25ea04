pub mod Texts
pub mod Meant
pub mod Filled
