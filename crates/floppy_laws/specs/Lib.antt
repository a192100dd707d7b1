pub mod Words
pub mod History
pub mod Plates
pub mod Demands
