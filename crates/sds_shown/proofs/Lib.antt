-- Lemmas on tables after a step, for the tests.
mod Kept
