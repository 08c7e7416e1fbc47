-- Syndromes of four rows
pub mod Rows
pub mod Pairs
pub mod FourRows
pub mod Moving
