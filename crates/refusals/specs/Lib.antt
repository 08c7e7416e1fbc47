pub mod Number
pub mod Claims
