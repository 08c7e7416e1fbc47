pub mod Encoding
pub mod Decoding
pub mod Filling
pub mod SyndromeDecoding
pub mod RoundTrip
pub mod Claims
