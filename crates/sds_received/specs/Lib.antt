-- What is read of messages that go as text.
pub mod Rows
pub mod Characters
pub mod Places
pub mod Messages
pub mod TwoChannels
