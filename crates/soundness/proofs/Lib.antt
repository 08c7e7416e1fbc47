pub mod Rows
pub mod Conditions
pub mod Walks
pub mod Tallies
pub mod Both
