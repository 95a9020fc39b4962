pub mod Calls
pub mod Output
