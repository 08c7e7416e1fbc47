pub mod Turns
pub mod Ends
pub mod PendingBytes
pub mod LineSoFar
pub mod Stepping
pub mod Finishing
