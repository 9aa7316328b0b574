-- One sequence, as the interpreter runs it: a step by its judgement (Events, Steps, Acts, Faults), runs in turns (Turns, Runs), what is to be seen
-- of passes, repeats and rounds (Sights, Counts, Shown, Seen), and that it is seen (Rasters, Rounds, Sequences).
pub mod Events
pub mod Turns
pub mod Steps
pub mod Runs
pub mod Sights
pub mod Rasters
pub mod Rounds
pub mod Counts
pub mod Shown
pub mod Seen
pub mod Sequences
pub mod Acts
pub mod Faults
