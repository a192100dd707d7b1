pub mod Runs
pub mod Plates
pub mod Demands
pub mod ListPlates
pub mod Lists
