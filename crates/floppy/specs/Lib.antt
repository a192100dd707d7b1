pub mod Work
pub mod Packet
