-- What contracts say of a node and its calls.
pub mod Faults
pub mod Going
pub mod Meaning
pub mod Sending
pub mod Starting
