pub mod Moving
pub mod Replies
pub mod Settings
