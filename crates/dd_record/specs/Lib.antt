pub mod Faults
pub mod Listed
pub mod Replay
pub mod Spelling
pub mod Table
