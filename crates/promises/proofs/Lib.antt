-- The proofs, from the ground up. What follows from what:
--   Formats        a format that fills the table, in words and as it is tested
--   Text, Run      one sequence: what the check finds in its text is what the interpreter then does
--   Chain          so of sequences one after another, as the names are listed
--   Range          every step and packet keeps a unit in range, so that no step of a state reached is denied
--   Packets        packets are obeyed and refused as the rows say; between the steps they move no run
--   Demand1        from Packets and Run: a refusal changes nothing else
--   Demand2        from Packets and Run: each answer and each effect; EachStep and EachCheck sentence by sentence
--   Sentences      from EachCheck: no other check fits its sentences
--   Demand3        from Chain, Range and Packets: the unit keeps what the check tells; EveryLap, for good
--   Stays          from Demand3 and EveryLap: a pass stays a pass where the bytes that it rests on do, and `still` says exactly where
--   Cards          from Packets and the laws of summary: a summary stays fresh after an uplink and an update, the check from cards is the table check
--   Decided        from Demand3: the check can tell nothing else
--   Refuted        from Decided, and by computing over the sample tables (sequence/proofs): the wrong libraries that document 01 names keep no such demand; no less will do for a premise of Stays
--   EveryFormat    Demand3, EveryLap, Decided, Stays and Cards of every format that fills the table; the two kinds' do
--   Flags          by computing: the answer for every science byte over every set of marks
--   Samples        by computing
--   OneAnswer      from the contracts: one answer for each call; TheCode: the demands, for the code
pub mod Formats
pub mod Text
pub mod Run
pub mod Chain
pub mod Range
pub mod Packets
pub mod Demand1
pub mod Demand2
pub mod EachStep
pub mod EachCheck
pub mod Sentences
pub mod Demand3
pub mod EveryLap
pub mod Stays
pub mod Cards
pub mod Decided
pub mod EveryFormat
pub mod Flags
pub mod Samples
pub mod Refuted
pub mod OneAnswer
pub mod TheCode
