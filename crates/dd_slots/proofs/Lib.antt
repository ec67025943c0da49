pub mod Making
pub mod Marks
pub mod Numbers
pub mod Ranges
pub mod Room
