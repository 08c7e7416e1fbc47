pub mod SideBySide
pub mod Tables
pub mod Summing
pub mod FromEnd
pub mod Costing
pub mod Fitting
pub mod Stepping
pub mod FromFront
