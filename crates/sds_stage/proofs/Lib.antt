-- Lemmas on the nodes of a rehearsal.
pub mod Added
pub mod Asked
pub mod Called
pub mod Closed
pub mod Delivered
pub mod Loaded
pub mod Lookups
pub mod Messaged
pub mod Registered
pub mod Reopened
pub mod Staged
pub mod Texts
