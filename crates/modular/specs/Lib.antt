pub mod Byte
pub mod Remainder
