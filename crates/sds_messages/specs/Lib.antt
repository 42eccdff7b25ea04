pub mod Closing
pub mod Texts
pub mod TwoChannels
