pub mod FirstBytes
pub mod LongestTokens
