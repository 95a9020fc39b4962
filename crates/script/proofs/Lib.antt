pub mod Outputs
pub mod Writings
