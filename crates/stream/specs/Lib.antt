pub mod Words
pub mod Faults
