pub mod Lines
pub mod Repeats
pub mod Faults
pub mod HeldLanes
pub mod Conflicts
pub mod Tiers
pub mod Documents
pub mod Day
