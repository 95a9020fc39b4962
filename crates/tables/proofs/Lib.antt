pub mod Chains
pub mod Turns
