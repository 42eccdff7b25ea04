pub mod Labels
pub mod Places
pub mod Having
pub mod Judging
pub mod Comparing
pub mod Keeping
pub mod LeadingBack
mod Lines
pub mod Children
