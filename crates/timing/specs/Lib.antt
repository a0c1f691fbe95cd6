pub mod Xyz
pub mod Line
