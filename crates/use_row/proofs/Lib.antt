pub mod Buffers
pub mod Cases
pub mod Parting
pub mod Received
pub mod TwoRows
