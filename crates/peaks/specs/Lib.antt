pub mod Lanes
pub mod Sums
pub mod Steps
pub mod LeastPeaks
