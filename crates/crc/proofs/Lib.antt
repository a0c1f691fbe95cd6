pub mod Steps
pub mod Linear
pub mod Entries
pub mod Range
pub mod Words
pub mod Burst
pub mod Parity
