pub mod Bytes
pub mod Layout
pub mod Rows
pub mod Words
