-- What each section of a sound configuration promises.
pub mod Sections
pub mod Tables
pub mod Triggers
pub mod Routers
pub mod TransformColumns
pub mod Transforms
pub mod Conflicts
