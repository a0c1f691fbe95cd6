pub mod Walk
pub mod Finding
pub mod Extracting
