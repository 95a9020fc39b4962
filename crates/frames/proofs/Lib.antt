pub mod Batches
pub mod Pieces
