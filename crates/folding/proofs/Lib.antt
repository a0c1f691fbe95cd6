pub mod Later
pub mod Folding
