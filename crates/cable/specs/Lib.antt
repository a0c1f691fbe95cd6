pub mod Bits
pub mod Words
pub mod Stepwise
pub mod Channels
