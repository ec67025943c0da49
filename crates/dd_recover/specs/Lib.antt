pub mod Beginning
pub mod Calls
pub mod Formatting
pub mod Opening
pub mod Stages
pub mod Writing
