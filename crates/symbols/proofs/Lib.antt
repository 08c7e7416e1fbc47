-- The columns
pub mod Digits
pub mod Counting
-- Words and their weight
pub mod Words
pub mod Weighing
pub mod CheckSymbols
-- The syndromes of the components
pub mod Parts
pub mod Rows
-- The check positions
pub mod Powers
