pub mod DigitLaws
pub mod WritingLaws
pub mod ReadingLaws
pub mod Meanings
pub mod Samples
