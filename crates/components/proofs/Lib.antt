-- The messages and the check symbols in one array
pub mod Interleaving
pub mod Placing
pub mod Setting
-- The row sums
pub mod PartialSums
pub mod Carrying
pub mod Reducing
pub mod Claims
-- The components
pub mod Solve
pub mod Residues
pub mod Pairing
-- The tests
pub mod Lengths
