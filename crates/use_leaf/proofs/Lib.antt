pub mod Filled
pub mod ThereAndBack
