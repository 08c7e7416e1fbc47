pub mod Weight
pub mod Columns
pub mod Syndromes
