pub mod Find
pub mod Extract
