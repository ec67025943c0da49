pub mod Keeps
pub mod Generated
pub mod Fronts
pub mod Ran
pub mod Said
pub mod Ended
