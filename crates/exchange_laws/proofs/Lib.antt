pub mod Ways
pub mod Due
pub mod Elements
pub mod Storing
pub mod Exchanging
pub mod PlateTable
