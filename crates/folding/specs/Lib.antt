pub mod Channels
pub mod Folding
