pub mod Ways
pub mod Calls
pub mod Keeping
pub mod Listing
pub mod PlateTable
