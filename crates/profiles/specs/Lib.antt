pub mod Edition
pub mod Row
pub mod Refusal
