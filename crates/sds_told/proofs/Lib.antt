pub mod Joined
pub mod Numbers
pub mod Turns
pub mod ReadBack
pub mod Forms
