-- What contracts say of a node's state.
pub mod Meaning
pub mod Pairs
pub mod Reading
pub mod ReadStates
pub mod PartsSeen
