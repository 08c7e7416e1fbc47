-- Syndromes as lists
pub mod Tests
pub mod Value
pub mod Near
pub mod Components
pub mod Moved
-- One changed symbol
pub mod Checks
pub mod Changed
pub mod Fits
-- Readings
pub mod Answers
pub mod Nearby
pub mod Outcomes
pub mod Decoded
pub mod TriedPositions
-- Erased symbols
pub mod Cleared
pub mod Effects
pub mod Fillable
pub mod Erased
-- The starred cases
pub mod Cases
