pub mod Header
pub mod Elements
pub mod Sameness
