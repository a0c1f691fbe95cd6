pub mod Repair
pub mod Answer
