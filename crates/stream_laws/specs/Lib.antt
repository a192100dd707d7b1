pub mod Words
pub mod History
pub mod EndOfData
pub mod Demands
pub mod Plates
