pub mod Packet
pub mod Refusal
