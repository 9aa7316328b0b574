-- Sequences one after another: the names (Listing, Names, Unique), that a run keeps what is told of them (Chains, Never, Laps, Working), what it
-- shows (ChainShown, Plans), and all of it from the door of the first sequence (AsTold).
pub mod Chains
pub mod Never
pub mod ChainShown
pub mod Names
pub mod Unique
pub mod Laps
pub mod Plans
pub mod Working
pub mod AsTold
