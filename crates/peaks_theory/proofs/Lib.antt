-- The search for the least cost
pub mod Lowest
-- The peak of a balanced word from its two parts
pub mod Split
pub mod Checks
pub mod Complement
pub mod Shift
pub mod CheckSymbol
-- What a choice costs
pub mod Costs
pub mod Bound
pub mod Selected
-- The worked rows, and every claim
pub mod Cases
pub mod Claims
