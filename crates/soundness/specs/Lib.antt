pub mod Tally
pub mod Checked
pub mod Walked
