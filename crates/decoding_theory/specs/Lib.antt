pub mod Syndromes
pub mod Decoded
pub mod TriedPositions
pub mod Filled
