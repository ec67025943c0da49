pub mod Entries
pub mod Keeping
pub mod Matching
pub mod Walks
