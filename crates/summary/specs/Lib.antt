pub mod Card
pub mod Summary
pub mod Chain
pub mod Held
