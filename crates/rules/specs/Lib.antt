pub mod Batch
pub mod Chunks
pub mod Rings
pub mod Blank
