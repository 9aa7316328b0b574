-- `Laws` has what other crates cite: the bytes hold the unit and nothing else, and what is written over them gives those of the unit after
-- it; `Samples` has the state at power-on.
pub mod Laws
pub mod Samples
