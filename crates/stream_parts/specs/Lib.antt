pub mod Requests
pub mod Warning
pub mod Replies
pub mod Checks
