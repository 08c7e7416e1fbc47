pub mod Lines
pub mod States
pub mod Ends
