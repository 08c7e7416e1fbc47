pub mod Forms
pub mod Writing
pub mod Answers
