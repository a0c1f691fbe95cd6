pub mod Digits
pub mod Boxing
pub mod Lengths
