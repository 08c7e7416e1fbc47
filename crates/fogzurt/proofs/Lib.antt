pub mod Filled
pub mod SignedByte
pub mod Outcome
pub mod Packing
pub mod Claims
