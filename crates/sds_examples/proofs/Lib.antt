pub mod DocumentsComputed
pub mod DayComputed
pub mod RepeatsComputed
pub mod FaultsComputed
pub mod HeldLanesComputed
pub mod ConflictsComputed
pub mod TiersComputed
