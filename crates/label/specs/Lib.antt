pub mod Label
pub mod Writing
