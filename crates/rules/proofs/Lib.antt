pub mod Rounding
pub mod Slots
