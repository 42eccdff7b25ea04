-- Lemmas on nodes that stand for nodes of a world.
pub mod Calls
