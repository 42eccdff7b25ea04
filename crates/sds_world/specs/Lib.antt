pub mod Always
pub mod Messages
pub mod Playing
pub mod Reading
pub mod Scening
pub mod Told
