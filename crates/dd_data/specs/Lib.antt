pub mod Blocks
pub mod Matching
