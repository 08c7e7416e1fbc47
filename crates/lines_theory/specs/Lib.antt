pub mod Line
pub mod Sizes
pub mod Stream
pub mod Feed
pub mod Examples
pub mod Claims
