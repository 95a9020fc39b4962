pub mod Again
pub mod Drain
pub mod Picked
pub mod Scalars
pub mod Snapshot
pub mod Unborne
