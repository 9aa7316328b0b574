pub mod State
pub mod Packet
pub mod Status
pub mod Answer
pub mod Step
