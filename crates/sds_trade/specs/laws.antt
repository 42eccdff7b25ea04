-- Laws of the rules: what follows from the definitions, each stated as a proposition.
pub mod Tables
pub mod Rules
pub mod Runs
pub mod Captured
pub mod Named
pub mod Cuts
pub mod Transforms
