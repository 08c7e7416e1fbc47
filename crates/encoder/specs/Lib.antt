pub mod Symbols
pub mod Answer
