pub mod Ranges
pub mod Refusing
pub mod Feeding
