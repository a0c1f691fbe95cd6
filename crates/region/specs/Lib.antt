pub mod Region
pub mod Ancillary
