pub mod Conversion
pub mod Answer
pub mod Steps
pub mod Cases
pub mod Claims
