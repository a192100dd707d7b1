pub mod Tape
pub mod Headers
pub mod Rules
pub mod Requests
pub mod Replies
pub mod Checks
pub mod Settings
