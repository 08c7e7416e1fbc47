pub mod ErrorPosition
pub mod Candidates
pub mod Claims
