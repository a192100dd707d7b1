pub mod Cartridges
pub mod Heads
pub mod Marking
pub mod Faults
pub mod Reports
