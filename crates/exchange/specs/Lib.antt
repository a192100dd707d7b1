pub mod Exporting
pub mod Importing
