-- The range that every step and every packet keeps: of the runner (Ranges), of the unit (Units), of each state reached (Steady).
pub mod Ranges
pub mod Units
pub mod Steady
