-- A symbol put where 0 stood
pub mod Placing
-- One erased symbol
pub mod Wanting
-- Two
pub mod Trying
-- A word with 0 at its erased positions
pub mod Clearing
