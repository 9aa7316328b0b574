-- Packets: when one is obeyed (Tests, Exactly, Obeyed, Needs), what it leaves (Leaves, Effects, Transfers, Packets), and what it means for a run:
-- the start, and packets between the steps (Auto, Actions, Starts, Between).
pub mod Tests
pub mod Exactly
pub mod Obeyed
pub mod Packets
pub mod Needs
pub mod Leaves
pub mod Effects
pub mod Transfers
pub mod Auto
pub mod Actions
pub mod Starts
pub mod Between
