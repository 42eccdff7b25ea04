pub mod Placing
pub mod Inserted
pub mod Listed
pub mod Pairs
pub mod Wide
pub mod Telling
pub mod Judging
