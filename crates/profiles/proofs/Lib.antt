-- The editions, and the table of profiles
pub mod Editions
pub mod Table
-- The symbols of a word
pub mod Highest
pub mod Received
-- The refusals
pub mod Refusing
pub mod Screening
