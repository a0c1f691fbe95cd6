pub mod Module
pub mod Runs
