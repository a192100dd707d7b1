pub mod Answers
pub mod States
pub mod Senses
