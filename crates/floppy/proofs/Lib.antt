pub mod PacketLaws
pub mod WorkLaws
