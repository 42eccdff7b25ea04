pub mod Replies
pub mod Saying
