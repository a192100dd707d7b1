pub mod Requests
pub mod Answers
pub mod Verdicts
pub mod Replies
pub mod Shell
