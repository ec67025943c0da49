pub mod Terms
pub mod Standing
pub mod Answering
pub mod Serving
pub mod Halting
pub mod Ending
pub mod Saying
