pub mod Bytes
pub mod Beyond
