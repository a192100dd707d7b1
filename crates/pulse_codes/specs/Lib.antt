pub mod Codes
pub mod Errors
pub mod Arguments
