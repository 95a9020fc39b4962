pub mod VarintLaws
pub mod Writes
pub mod Lengths
pub mod ReadLaws
pub mod ReadExact
pub mod ItemLaws
pub mod UuidLaws
pub mod Vectors
