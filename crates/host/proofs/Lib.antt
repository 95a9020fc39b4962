pub mod Framing
pub mod Tables
pub mod Takes
