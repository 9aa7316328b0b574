pub mod State
pub mod Status
