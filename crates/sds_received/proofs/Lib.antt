pub mod Ids
pub mod Loadable
pub mod Taking
pub mod Found
pub mod Back
pub mod Sound
