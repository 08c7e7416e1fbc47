pub mod Encoding
pub mod Decoding
pub mod Corrections
pub mod Counts
pub mod Filling
pub mod SyndromeDecoding
pub mod RoundTrip
pub mod Claims
