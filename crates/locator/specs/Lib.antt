pub mod Location
pub mod Steps
