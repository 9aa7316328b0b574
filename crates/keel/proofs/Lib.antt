-- `Laws` has what other crates cite of the calls; `Ways` has a law for each way out of a call.
pub mod Laws
pub mod Ways
