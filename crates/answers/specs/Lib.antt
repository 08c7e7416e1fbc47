pub mod Forms
pub mod Writing
