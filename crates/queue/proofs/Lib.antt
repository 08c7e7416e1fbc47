pub mod Checking
pub mod Stores
pub mod Told
pub mod Refusals
pub mod Claims
