pub mod Deadline
pub mod Pending
pub mod Stats
