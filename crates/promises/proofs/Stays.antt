-- A pass stays a pass: the tables agree in what the check reads, so that it answers the same (Rests), the plan too (Planned), whatever was done since
-- (Since), and demand 3 holds for a run begun now (Begun). `still` says exactly whether it does (Still).
pub mod Rests
pub mod Planned
pub mod Since
pub mod Begun
pub mod Still
