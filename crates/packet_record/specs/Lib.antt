pub mod PacketRecord
