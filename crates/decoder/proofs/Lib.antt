-- Symbols mod q
pub mod Multiplying
-- The body and its differences
pub mod Differencing
-- Syndromes
pub mod Moving
pub mod Gaining
pub mod Fitting
pub mod Locating
pub mod Filling
pub mod Erasing
pub mod Completing
pub mod Clearing
-- The messages of the components
pub mod Restoring
pub mod Running
pub mod Extracting
pub mod Messaging
-- The sums over a received word
pub mod Levels
pub mod Totalling
pub mod Sent
-- The decoder
pub mod Methods
pub mod Answering
pub mod Finding
pub mod Admitting
