pub mod With
pub mod Events
pub mod Judge
pub mod Step
pub mod Moves
