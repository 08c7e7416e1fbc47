pub mod Costs
pub mod Lowest
pub mod Claims
