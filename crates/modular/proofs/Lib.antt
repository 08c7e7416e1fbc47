-- Arrays
pub mod Filling
-- Symbols mod q
pub mod Bytes
-- Sums mod q
pub mod Dividing
-- Signed numbers
pub mod Signed
