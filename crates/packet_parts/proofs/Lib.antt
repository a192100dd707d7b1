pub mod ReplyLaws
pub mod ShellLaws
pub mod VerdictLaws
