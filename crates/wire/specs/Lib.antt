pub mod Proto
pub mod Single
pub mod Batch
pub mod Length
pub mod Fields
pub mod Uuid
pub mod Read
pub mod Buffer
