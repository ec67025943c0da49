pub mod Bytes
pub mod Geometry
pub mod Lcg
pub mod Print
pub mod Text
