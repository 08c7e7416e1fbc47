-- What is told of an error
pub mod Erring
pub mod Inverting
-- The two candidates
pub mod Scaling
pub mod Choosing
-- The test by moving
pub mod Moving
-- The answer
pub mod Answering
