pub mod Span
pub mod Answer
pub mod Outbound
pub mod After
pub mod Held
