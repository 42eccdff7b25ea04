-- What contracts say of calls that make an act in one commit.
pub mod Commits
pub mod Counting
pub mod Ends
pub mod Faults
