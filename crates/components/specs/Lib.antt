pub mod Components
pub mod Checks
pub mod PartialSums
pub mod Lanes
pub mod Residues
pub mod Claims
