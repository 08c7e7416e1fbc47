-- Balancing
pub mod Changing
pub mod Integrating
pub mod Raising
pub mod Stepping
pub mod Searching
pub mod Complementing
pub mod Editions
pub mod LeastPeak
-- The word
pub mod Writing
-- The writer
pub mod Pairing
pub mod Refusing
