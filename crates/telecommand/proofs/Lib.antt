-- `Laws` has what other crates cite of commands and refusals; `Ways` what they cite of a dump.
pub mod Laws
pub mod Ways
