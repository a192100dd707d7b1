pub mod Words
pub mod Plates
pub mod Demands
