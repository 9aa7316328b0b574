pub mod Calls
pub mod Report
