pub mod Overlaying
pub mod AfterFirst
pub mod OneByOne
pub mod Correcting
pub mod Indices
