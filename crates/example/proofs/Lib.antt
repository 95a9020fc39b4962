pub mod ReadsBack
pub mod Ranges
pub mod Reconnects
