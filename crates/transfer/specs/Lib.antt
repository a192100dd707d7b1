pub mod Moving
pub mod Reading
pub mod Marked
pub mod Spacing
pub mod Writing
