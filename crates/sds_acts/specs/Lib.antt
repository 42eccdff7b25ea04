-- What contracts say of calls that make an act without running rows.
pub mod Counting
pub mod Ending
pub mod Parts
