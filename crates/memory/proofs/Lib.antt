-- `Laws` has what other crates cite of ranges, writes and entries; `Samples` the document's rows of ranges.
pub mod Laws
pub mod Samples
