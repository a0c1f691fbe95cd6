pub mod Flags
pub mod Words
pub mod Received
pub mod Flagged
pub mod Channels
pub mod TwoRows
