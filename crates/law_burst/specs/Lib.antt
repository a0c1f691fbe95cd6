pub mod Stretch
pub mod TwoRows
