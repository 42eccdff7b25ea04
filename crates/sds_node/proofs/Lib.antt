-- Lemmas on how calls end, and on what a node has after them.
pub mod Endings
pub mod Goings
pub mod Reading
pub mod Standing
