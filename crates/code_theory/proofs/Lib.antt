-- Orders of refusals
pub mod Refusal
-- Words and their symbols
pub mod Symbols
pub mod Merge
pub mod Distance
pub mod Alternate
-- Why a balance can always be found
pub mod Balance
pub mod Shifted
pub mod FromEnd
pub mod Walk
pub mod First
pub mod Choice
pub mod Pair
-- Which of the balancing choices a line rule takes
pub mod LineRule
-- The component code
pub mod Weights
pub mod Syndrome
pub mod Columns
pub mod Reduced
pub mod Component
-- Why one bad symbol is never taken for another pair
pub mod Moves
pub mod Told
pub mod Conditions
pub mod Parity
pub mod Apart
pub mod Found
pub mod Reading
pub mod Errors
-- Words with erased symbols
pub mod Whole
pub mod Filling
pub mod Erased
-- How many positions are tried
pub mod TriedPositions
-- The pair that a codeword carries
pub mod Restored
pub mod Carried
pub mod Delta
pub mod Encoded
-- The table, the starred cases, and every claim
pub mod Profiles
pub mod Cases
pub mod Claims
