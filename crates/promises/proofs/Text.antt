-- One sequence's text, as the check reads it: what a judgement tells of it (Sound, Rules), what the walk finds as derivations (Lines, Targets,
-- Walks), and that these are the rules in text order, the places of the commands and their counts (InOrder, TextOrder, Counting).
pub mod Sound
pub mod Rules
pub mod Lines
pub mod Targets
pub mod Walks
pub mod TextOrder
pub mod Counting
pub mod InOrder
