-- Lemmas on rehearsals and their scenarios.
pub mod Answering
pub mod Delivered
pub mod Exchanged
pub mod Fronts
pub mod Messaged
pub mod Reached
pub mod Rehearsed
pub mod SaidLines
pub mod TakenLines
pub mod Turning
