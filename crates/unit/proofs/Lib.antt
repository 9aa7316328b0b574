-- What other crates cite of packets.
pub mod Laws
