mod DigitPlace
pub mod Fields
pub mod Geometries
pub mod Results
pub mod Texts
mod Worked
mod Zeros
