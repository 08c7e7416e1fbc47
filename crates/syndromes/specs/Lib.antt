pub mod FourRows
pub mod Rows
pub mod Plus
pub mod Correction
pub mod Judgement
