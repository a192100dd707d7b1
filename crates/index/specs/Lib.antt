pub mod Entries
pub mod Spacing
pub mod Checking
pub mod Rewriting
pub mod Commands
pub mod Keeping
