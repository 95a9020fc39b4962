pub mod Keys
pub mod Once
