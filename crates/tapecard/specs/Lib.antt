pub mod PacketCalls
pub mod IndexCalls
pub mod ExchangeCalls
pub mod FloppyCalls
pub mod PulseCalls
pub mod Leaving
