pub mod Bits
pub mod Codes
pub mod Coding
pub mod Words
pub mod Channels
pub mod Spread
pub mod Burst
