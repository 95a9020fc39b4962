pub mod Time
pub mod Ids
pub mod MemoryLimit
pub mod Refusals
pub mod Bounds
pub mod Values
pub mod Empty
