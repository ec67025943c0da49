pub mod Lcg
pub mod Generator
pub mod Sums
pub mod Running
pub mod Large
