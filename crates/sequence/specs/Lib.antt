pub mod Text
pub mod Starts
pub mod Raster
pub mod LineList
pub mod Env
pub mod Within
