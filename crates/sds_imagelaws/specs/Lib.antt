-- The edits that a node commits, and the laws of images.
pub mod Edits
pub mod Images
pub mod Apart
pub mod ActEdits
pub mod Reading
pub mod Widths
